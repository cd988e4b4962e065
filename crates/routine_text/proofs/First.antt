-- The fault that is given is the first of those that are marked.
use Prim.Native.Nat.{ℕ, ◌+◌, ◌*◌, ◌≤◌, ◌<◌}
use native.Mathlib.Omega.{arith}
use mathlib.Core.Path.{◌≡◌, refl, sym, ap, ◌∙◌, subst}
use mathlib.Core.Bool.{Bool, true, false, cond}
use mathlib.Core.List.{List, [], ◌∷◌, Memᴰ, cons-ne-nil}
use mathlib.Core.Option.{Option, none, some, Option-elim}
use borrow.Author.Tests.{ltb-true, ltb-false, le-ltb}
use Rattle.theory.proofs.Basics.Search.{none-some}
use Rattle.routine_text.specs.Builder.{Fault, text_fault, name_fault, forall_fault, limit_fault, Mark}
use Rattle.routine_text.specs.Reading.{rank, order, before, earlier, first}
use Rattle.routine_text.specs.Claims.{First}

rank_below : (f : Fault) → rank f < 4
unfolding rank
rank_below text_fault = omega arith
rank_below name_fault = omega arith
rank_below forall_fault = omega arith
rank_below limit_fault = omega arith

order-before : (m n : Mark) → order m ≤ order n → before n m ≡ false
unfolding before
order-before m n h = le-ltb (order n) (order m) h

before-order : (m n : Mark) → before n m ≡ false → order m ≤ order n
unfolding before
before-order m n h = ltb-false (order n) (order m) h

-- "The fault is the one at the smallest place", whatever the words are; "at one place" the rank decides
pub before-place : (m n : Mark) → before n m ≡ false → m.place ≤ n.place
unfolding order
before-place m n h =
    let q = before-order m n h in
    let r = rank_below n.fault in
    omega (arith, q, r)

pub before-rank : (m n : Mark) → before n m ≡ false → m.place ≡ n.place → rank m.fault ≤ rank n.fault
unfolding order
before-rank m n h e = let q = before-order m n h in omega (arith, q, e)

-- the earlier one of two is one of them, and neither is before it
cond_one : (P : Mark → Type 0) (b : Bool) (m n : Mark) → P m → P n → P (cond b n m)
cond_one P true m n a c = c
cond_one P false m n a c = a

cond_left : (b : Bool) (m n : Mark) → before n m ≡ b → order (cond b n m) ≤ order m
unfolding before
cond_left true m n e = let h = ltb-true (order n) (order m) e in omega (arith, h)
cond_left false m n e = omega arith

cond_right : (b : Bool) (m n : Mark) → before n m ≡ b → order (cond b n m) ≤ order n
unfolding before
cond_right true m n e = omega arith
cond_right false m n e = ltb-false (order n) (order m) e

first_more : (n p : Mark) (ms : List Mark) → First ms p → First (n ∷ ms) (earlier n p)
unfolding earlier
first_more n p ms h =
    record {
      one_of = cond_one (λ x. Memᴰ x (n ∷ ms)) (before p n) n p (Memᴰ.head refl) (Memᴰ.tail h.one_of);
      none_before = below;
    }
  where
    e : Mark
    e = cond (before p n) p n

    below : (x : Mark) → Memᴰ x (n ∷ ms) → before x e ≡ false
    below x (Memᴰ.head q) = order-before e x (subst (λ (y : Mark). order e ≤ order y) (sym q) (cond_left (before p n) n p refl))
    below x (Memᴰ.tail t) =
        let a = cond_right (before p n) n p refl in
        let b = before-order p x (h.none_before x t) in
        order-before e x (omega (arith, a, b))

first_alone : (n : Mark) → First (n ∷ []) n
first_alone n =
    record {
      one_of = Memᴰ.head refl;
      none_before = below;
    }
  where
    below : (x : Mark) → Memᴰ x (n ∷ []) → before x n ≡ false
    below x (Memᴰ.head q) = order-before n x (subst (λ (y : Mark). order n ≤ order y) (sym q) (omega arith))
    below x (Memᴰ.tail m) = elim m [ ]

pub first-none : (ms : List Mark) → first ms ≡ none → ms ≡ []
unfolding first
first-none [] h = refl
first-none (m ∷ ms) h = absurd (none-some (sym h))

some_injective : {A : Type 0} (a b : A) → some a ≡ some b → a ≡ b
unfolding Option-elim
some_injective a b e = ap (λ o. Option-elim o a (λ x. x)) e

pub first_some : (ms : List Mark) (m : Mark) → first ms ≡ some m → First ms m
unfolding first Option-elim
first_some [] m h = absurd (none-some h)
first_some (n ∷ ms) m h = go (first ms) (first-none ms) (first_some ms) refl (some_injective _ _ h)
  where
    go : (o : Option Mark) → (first ms ≡ none → ms ≡ []) → ((p : Mark) → first ms ≡ some p → First ms p) → first ms ≡ o →
        Option-elim (first ms) n (earlier n) ≡ m → First (n ∷ ms) m
    go none empty more e q =
        let alone : First (n ∷ ms) n = subst (λ (xs : List Mark). First (n ∷ xs) n) (sym (empty e)) (first_alone n) in
        subst (First (n ∷ ms)) (sym (ap (λ (o : Option Mark). Option-elim o n (earlier n)) e) ∙ q) alone
    go (some p) empty more e q =
        subst (First (n ∷ ms)) (sym (ap (λ (o : Option Mark). Option-elim o n (earlier n)) e) ∙ q) (first_more n p ms (more p e))
