-- Lists of numbers: members, each once, and how many different numbers a list can hold.
use Prim.Native.Nat.{ℕ, suc, ◌≤◌}
use native.Mathlib.Omega.{arith}
use mathlib.Core.Path.{◌≡◌, refl, sym, ap, subst}
use mathlib.Core.Logic.{◌⊎◌, ⊎_elim, inl, inr}
use mathlib.Core.Bool.{Bool, true, false, not}
use mathlib.Core.List.Memᴰ
use mathlib.Core.List.{List, [], ◌∷◌, ◌++◌, Memᴰ}
use lib.ListN.{length, length-append}
use lib.Dec.{eqb, ltb, leb}
use Rattle.logic.specs.Search.{◌and◌, from, any, all}
use Rattle.logic.specs.Query.{is_order}
use Rattle.theory.proofs.Basics.Search.{bool_cases, true-false, not-true, not_intro, and_left, and_right, and_intro, any-true, any_intro, all_true, from-mem, from_intro}
use Rattle.theory.proofs.Basics.Compare.{eqb-true, eqb_self, ltb-true, ltb_intro, eq_cases}
use Rattle.ordering.specs.Kept.{each_once}
use Rattle.ordering.specs.Sheet.{is_rule}
use borrow.Author.Tests.{leb-true, le-leb}

abbrev pub has : List ℕ → ℕ → Bool
has xs x = any (eqb x) xs

pub has-mem : (x : ℕ) (xs : List ℕ) → has xs x ≡ true → Memᴰ x xs
has-mem x xs h = go (any-true (eqb x) xs h)
  where
    go : (y : ℕ) × Memᴰ y xs × (eqb x y ≡ true) → Memᴰ x xs
    go r = subst (λ (y : ℕ). Memᴰ y xs) (sym (eqb-true x r.0 r.2)) r.1

pub mem-has : {xs : List ℕ} (x : ℕ) → Memᴰ x xs → has xs x ≡ true
mem-has x m = any_intro (eqb x) x m (eqb_self x)

-- a list about one of its members
abbrev pub Split : List ℕ → ℕ → Type 0
Split xs x = (u : List ℕ) × (v : List ℕ) × (xs ≡ u ++ x ∷ v)

pub split : (x : ℕ) {xs : List ℕ} → Memᴰ x xs → Split xs x
split x (Memᴰ.head {x = y} {xs = xs} e) = ([], xs, ap (λ (z : ℕ). z ∷ xs) (sym e))
split x (Memᴰ.tail {x = y} {xs = xs} m) = let r = split x m in (y ∷ r.0, r.1, ap (λ (l : List ℕ). y ∷ l) r.2)

pub once_head : (x : ℕ) (xs : List ℕ) → each_once (x ∷ xs) ≡ true → has xs x ≡ false
unfolding each_once
once_head x xs h = not-true (and_left (not (any (eqb x) xs)) (each_once xs) h)

pub once_tail : (x : ℕ) (xs : List ℕ) → each_once (x ∷ xs) ≡ true → each_once xs ≡ true
unfolding each_once
once_tail x xs h = and_right (not (any (eqb x) xs)) (each_once xs) h

pub once_intro : (x : ℕ) (xs : List ℕ) → has xs x ≡ false → each_once xs ≡ true → each_once (x ∷ xs) ≡ true
unfolding each_once
once_intro x xs h t = and_intro (not_intro h) t

-- a member of a list is a member of it without another number
without : (x y : ℕ) (u v : List ℕ) → (y ≡ x → ⊥) → Memᴰ y (u ++ x ∷ v) → Memᴰ y (u ++ v)
without x y u v d m =
    ⊎_elim (λ l. Memᴰ.append_left v l) (λ r. ⊎_elim (λ e. absurd (d e)) (λ t. Memᴰ.append_right u t) (Memᴰ.cases_cons r)) (Memᴰ.append_cases u m)

-- one less
length_without : (x : ℕ) (u v : List ℕ) → length (u ++ x ∷ v) ≡ suc (length (u ++ v))
length_without x u v = omega (arith, length-append u (x ∷ v), length-append u v)

-- numbers that are different, among those of another list, are no more than those
pub fewer : (xs ys : List ℕ) → each_once xs ≡ true → ((z : ℕ) → Memᴰ z xs → Memᴰ z ys) → length xs ≤ length ys
fewer [] ys h sub = omega arith
fewer (x ∷ xs) ys h sub = go (λ l s. fewer xs l (once_tail x xs h) s) (split x (sub x (Memᴰ.head refl)))
  where
    go : ((l : List ℕ) → ((z : ℕ) → Memᴰ z xs → Memᴰ z l) → length xs ≤ length l) → Split ys x → length (x ∷ xs) ≤ length ys
    go ih r =
        let inside : (z : ℕ) → Memᴰ z xs → Memᴰ z (r.0 ++ r.1) =
        λ z m.
        without x z r.0 r.1 (λ e. true-false (mem-has x (subst (λ (w : ℕ). Memᴰ w xs) e m)) (once_head x xs h))
        (subst (λ (l : List ℕ). Memᴰ z l) r.2 (sub z (Memᴰ.tail m))) in
        omega (arith, ih (r.0 ++ r.1) inside, length_without x r.0 r.1, ap length r.2)

-- a list has each number once, or one of its numbers again beside it
abbrev Repeats : List ℕ → Type 0
Repeats xs = (x : ℕ) × (u : List ℕ) × (v : List ℕ) × (xs ≡ u ++ x ∷ v) × Memᴰ x (u ++ v)

once_or_repeats : (xs : List ℕ) → (each_once xs ≡ true) ⊎ Repeats xs
unfolding each_once
once_or_repeats [] = inl refl
once_or_repeats (x ∷ xs) = go (bool_cases (has xs x)) (once_or_repeats xs)
  where
    go : (has xs x ≡ true) ⊎ (has xs x ≡ false) → (each_once xs ≡ true) ⊎ Repeats xs → (not (has xs x) and each_once xs ≡ true) ⊎ Repeats (x ∷ xs)
    go (inl h) r = inr (x, [], xs, refl, has-mem x xs h)
    go (inr h) (inl o) = inl (and_intro (not_intro h) o)
    go (inr h) (inr r) = inr (r.0, x ∷ r.1, r.2, ap (λ (l : List ℕ). x ∷ l) r.3, Memᴰ.tail r.4)

-- a list that has as many numbers as the different ones among it has each once
pub full_once : (xs ys : List ℕ) → each_once xs ≡ true → ((z : ℕ) → Memᴰ z xs → Memᴰ z ys) → length ys ≤ length xs → each_once ys ≡ true
full_once xs ys h sub fits = ⊎_elim (λ o. o) (λ r. absurd (clash r)) (once_or_repeats ys)
  where
    clash : Repeats ys → ⊥
    clash r =
        let inside : (z : ℕ) → Memᴰ z xs → Memᴰ z (r.1 ++ r.2) =
        λ z m.
        ⊎_elim (λ e. subst (λ (w : ℕ). Memᴰ w (r.1 ++ r.2)) (sym e) r.4)
        (λ d. without r.0 z r.1 r.2 d.0 (subst (λ (l : List ℕ). Memᴰ z l) r.3 (sub z m)))
        (eq_cases z r.0) in
        omega (arith, fewer xs (r.1 ++ r.2) h inside, length_without r.0 r.1 r.2, ap length r.3)

-- and holds no other
pub full_among : (xs ys : List ℕ) → each_once xs ≡ true → ((z : ℕ) → Memᴰ z xs → Memᴰ z ys) → length ys ≤ length xs → (z : ℕ) → Memᴰ z ys → Memᴰ z xs
full_among xs ys h sub fits z m = ⊎_elim (λ t. has-mem z xs t) (λ f. absurd (more f)) (bool_cases (has xs z))
  where
    more : has xs z ≡ false → ⊥
    more f = omega (arith, fewer (z ∷ xs) ys (once_intro z xs f h) (λ w n. ⊎_elim (λ e. subst (λ (k : ℕ). Memᴰ k ys) (sym e) m) (λ t. sub w t) (Memᴰ.cases_cons n)))

-- The rules

abbrev pub rules : List ℕ
rules = from 8 1

pub rule_is : (r : ℕ) → 1 ≤ r → r ≤ 8 → is_rule r ≡ true
unfolding is_rule
rule_is r l h = and_intro (ltb_intro l) (le-leb r 8 h)

pub is_rule_lem : (r : ℕ) → is_rule r ≡ true → (1 ≤ r) × (r ≤ 8)
unfolding is_rule
is_rule_lem r h = (ltb-true 0 r (and_left (ltb 0 r) (leb r 8) h), leb-true r 8 (and_right (ltb 0 r) (leb r 8) h))

pub rule_mem : (r : ℕ) → is_rule r ≡ true → Memᴰ r rules
rule_mem r h = let b = is_rule_lem r h in from_intro 8 1 r b.0 (omega arith)

pub mem_rule : (r : ℕ) → Memᴰ r rules → is_rule r ≡ true
mem_rule r m = let b = from-mem 8 1 r m in rule_is r b.0 (omega arith)

pub rules_once : each_once rules ≡ true
unfolding each_once from any ◌and◌ Rattle.logic.specs.Search.◌or◌
rules_once = refl

pub rules_eight : length rules ≡ 8
unfolding from
rules_eight = refl

-- "eight bytes holding 1 to 8 once each"
pub order_eight : (l : List ℕ) → is_order l ≡ true → length l ≡ 8
unfolding is_order
order_eight l h = eqb-true (length l) 8 (and_left (eqb (length l) 8) (all (λ r. any (eqb r) l) (from 8 1)) h)

pub order_has : (l : List ℕ) → is_order l ≡ true → (r : ℕ) → Memᴰ r rules → Memᴰ r l
unfolding is_order
order_has l h r m = has-mem r l (all_true (λ r. any (eqb r) l) r (and_right (eqb (length l) 8) (all (λ r. any (eqb r) l) (from 8 1)) h) m)

pub order_once : (l : List ℕ) → is_order l ≡ true → each_once l ≡ true
order_once l h = full_once rules l rules_once (order_has l h) (omega (arith, order_eight l h, rules_eight))

pub order_rules : (l : List ℕ) → is_order l ≡ true → (r : ℕ) → Memᴰ r l → is_rule r ≡ true
order_rules l h r m = mem_rule r (full_among rules l rules_once (order_has l h) (omega (arith, order_eight l h, rules_eight)) r m)
