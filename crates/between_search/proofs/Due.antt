-- Tests that are written with the library's `&&`, and the literals that are due.
use Prim.Native.Nat.{ℕ, ◌≤◌}
use native.Mathlib.Omega.{arith}
use mathlib.Core.Path.{◌≡◌, refl, sym}
use mathlib.Core.Logic.{◌↔◌, ⊎_elim}
use mathlib.Core.Bool.{Bool, true, false, ◌&&◌, ◌||◌, false≢true}
use mathlib.Core.List.{List, [], ◌∷◌, Memᴰ}
use lib.Dec.{eqb, leb}
use borrow.Author.Tests.{leb-true, le-leb}
use Rattle.logic.specs.Search.{◌or◌, any}
use Rattle.logic.specs.Heap.{Signed}
use Rattle.theory.proofs.Basics.Compare.{eqb_self, le_cases}
use Rattle.between_search.specs.Tests.{agrees, due_pair, due_triple}

pub both : {a b : Bool} → a ≡ true → b ≡ true → a && b ≡ true
both {a = true} e h = h
both {a = false} e h = absurd (false≢true e)

pub first_of_lem : (a b : Bool) → a && b ≡ true → a ≡ true
first_of_lem true b h = refl
first_of_lem false b h = h

pub second_of : (a b : Bool) → a && b ≡ true → b ≡ true
second_of true b h = h
second_of false b h = absurd (false≢true h)

pub and-false : (a : Bool) {b : Bool} → b ≡ false → a && b ≡ false
and-false true e = e
and-false false e = refl

pub either_left : {a : Bool} (b : Bool) → a ≡ true → a || b ≡ true
either_left {a = true} b e = refl
either_left {a = false} b e = absurd (false≢true e)

pub either_right : (a : Bool) {b : Bool} → b ≡ true → a || b ≡ true
either_right true e = refl
either_right false e = e

pub not_both : {a b : Bool} → a && b ≡ false → a ≡ true → b ≡ false
not_both {a = true} h e = h
not_both {a = false} h e = absurd (false≢true e)

pub or_no : {a b : Bool} → a ≡ false → b ≡ false → a or b ≡ false
unfolding ◌or◌
or_no {a = true} e h = absurd (false≢true (sym e))
or_no {a = false} e h = h

pub any_none : {A : Type 0} (p : A → Bool) (xs : List A) → ((x : A) → Memᴰ x xs → p x ≡ false) → any p xs ≡ false
unfolding any
any_none p [] h = refl
any_none p (x ∷ xs) h = or_no (h x (Memᴰ.head refl)) (any_none p xs (λ y m. h y (Memᴰ.tail m)))

-- what is held is what the sign asks for, exactly if the literal is met
pub signed_agrees : {P : Type 0} (sign held : Bool) → P ↔ (held ≡ true) → Signed sign P ↔ (agrees sign held ≡ true)
unfolding agrees
signed_agrees true true e = (λ p. refl, λ h. e.1 refl)
signed_agrees true false e = (λ p. e.0 p, λ h. e.1 h)
signed_agrees false true e = (λ p. absurd (p (e.1 refl)), λ h p. absurd (false≢true h))
signed_agrees false false e = (λ p. refl, λ h p. false≢true (e.0 p))

module _ (a b t : ℕ) where
  pub due_left : due_pair a b t ≡ true → a ≤ t
  unfolding due_pair
  due_left h = leb-true a t (first_of_lem (leb a t) (leb b t) (first_of_lem (leb a t && leb b t) _ h))

  pub due_right : due_pair a b t ≡ true → b ≤ t
  unfolding due_pair
  due_right h = leb-true b t (second_of (leb a t) (leb b t) (first_of_lem (leb a t && leb b t) _ h))

-- a literal is due at the last of its terms
pub pair_due_somewhere : (a b n : ℕ) → (1 ≤ a) × (a ≤ n) → (1 ≤ b) × (b ≤ n) → (t : ℕ) × (1 ≤ t) × (t ≤ n) × (due_pair a b t ≡ true)
unfolding due_pair
pair_due_somewhere a b n ra rb =
    ⊎_elim
    (λ l. (b, rb.0, rb.1, both (both (le-leb a b l) (le-leb b b (omega arith))) (either_right (eqb a b) (eqb_self b))))
    (λ l. (a, ra.0, ra.1, both (both (le-leb a a (omega arith)) (le-leb b a (omega arith))) (either_left (eqb b a) (eqb_self a))))
    (le_cases a b)

module _ (x y z t : ℕ) where
  pub due_from : due_triple x y z t ≡ true → x ≤ t
  unfolding due_triple
  due_from h = leb-true x t (first_of_lem (leb x t) (leb y t) (first_of_lem (leb x t && leb y t) _ (first_of_lem ((leb x t && leb y t) && leb z t) _ h)))

  pub due_middle : due_triple x y z t ≡ true → y ≤ t
  unfolding due_triple
  due_middle h = leb-true y t (second_of (leb x t) (leb y t) (first_of_lem (leb x t && leb y t) _ (first_of_lem ((leb x t && leb y t) && leb z t) _ h)))

  pub due_to : due_triple x y z t ≡ true → z ≤ t
  unfolding due_triple
  due_to h = leb-true z t (second_of (leb x t && leb y t) _ (first_of_lem ((leb x t && leb y t) && leb z t) _ h))

  due_now : x ≤ t → y ≤ t → z ≤ t → (eqb x t || eqb y t) || eqb z t ≡ true → due_triple x y z t ≡ true
  unfolding due_triple
  due_now a b c e = both (both (both (le-leb x t a) (le-leb y t b)) (le-leb z t c)) e

pub triple_due_somewhere : (x y z n : ℕ) → (1 ≤ x) × (x ≤ n) → (1 ≤ y) × (y ≤ n) → (1 ≤ z) × (z ≤ n) → (t : ℕ) × (1 ≤ t) × (t ≤ n) × (due_triple x y z t ≡ true)
triple_due_somewhere x y z n rx ry rz =
    ⊎_elim
    (λ l. ⊎_elim
    (λ k. (z, rz.0, rz.1, due_now x y z z (omega arith) k (omega arith) (either_right (eqb x z || eqb y z) (eqb_self z))))
    (λ k. (y, ry.0, ry.1, due_now x y z y l (omega arith) (omega arith) (either_left (eqb z y) (either_right (eqb x y) (eqb_self y)))))
    (le_cases y z))
    (λ l. ⊎_elim
    (λ k. (z, rz.0, rz.1, due_now x y z z k (omega arith) (omega arith) (either_right (eqb x z || eqb y z) (eqb_self z))))
    (λ k. (x, rx.0, rx.1, due_now x y z x (omega arith) (omega arith) (omega arith) (either_left (eqb z x) (either_left (eqb y x) (eqb_self x)))))
    (le_cases x z))
    (le_cases x y)
