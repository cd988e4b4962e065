-- Where a number stands in a list, and lists compared number by number.
use Prim.Native.Nat.{ℕ, suc, ◌+◌, ◌<◌}
use native.Mathlib.Omega.{arith}
use mathlib.Core.Path.{◌≡◌, refl, sym, ap, ◌∙◌}
use mathlib.Core.Logic.{⊎_elim}
use mathlib.Core.Bool.{true, false, false≢true}
use mathlib.Core.List.{List, [], ◌∷◌, ◌++◌}
use lib.ListN.{length}
use lib.Dec.{ltb}
use borrow.Author.Tests.{ne_eqb, eq-eqb, le-ltb, lt-ltb}
use Rattle.logic.specs.Search.{◌and◌, ◌or◌, any}
use Rattle.theory.proofs.Basics.Search.{true-false, all_true}
use Rattle.theory.proofs.Basics.Compare.{eqb_self, eq_cases, le_cases, ltb-true}
use Rattle.ordering.specs.Sheet.{Pair}
use Rattle.ordering.specs.Kept.{place_of, keeps, smaller}
use Rattle.ordering.proofs.Lists.{has}
use mathlib.Core.List.{Memᴰ}

-- the first number of a list is at 0, and the others one further than in its rest
place_here : {x r : ℕ} (xs : List ℕ) → x ≡ r → place_of (x ∷ xs) r ≡ 0
unfolding place_of
place_here xs e = rw (eq-eqb _ _ e)

place_past : {x r : ℕ} (xs : List ℕ) → (x ≡ r → ⊥) → place_of (x ∷ xs) r ≡ suc (place_of xs r)
unfolding place_of
place_past xs d = rw (ne_eqb _ _ d)

has_here : {x r : ℕ} (xs : List ℕ) → x ≡ r → has (x ∷ xs) r ≡ true
unfolding any ◌or◌
has_here xs e = rw (eq-eqb _ _ (sym e))

has_past : {x r : ℕ} (xs : List ℕ) → (x ≡ r → ⊥) → has (x ∷ xs) r ≡ has xs r
unfolding any ◌or◌
has_past xs d = rw (ne_eqb _ _ (λ e. d (sym e)))

pub place_has : (r : ℕ) (xs : List ℕ) → has xs r ≡ true → place_of xs r < length xs
unfolding any
place_has r [] h = absurd (false≢true h)
place_has r (x ∷ xs) h =
    ⊎_elim (λ e. omega (arith, place_here xs e)) (λ d. omega (arith, place_past xs d.0, place_has r xs (sym (has_past xs d.0) ∙ h))) (eq_cases x r)

pub has_place : (r : ℕ) (xs : List ℕ) → place_of xs r < length xs → has xs r ≡ true
has_place r [] h = absurd (omega arith)
has_place r (x ∷ xs) h =
    ⊎_elim (λ e. has_here xs e) (λ d. has_past xs d.0 ∙ has_place r xs (omega (arith, place_past xs d.0))) (eq_cases x r)

pub place_left : (r : ℕ) (u v : List ℕ) → has u r ≡ true → place_of (u ++ v) r ≡ place_of u r
unfolding any
place_left r [] v h = absurd (false≢true h)
place_left r (x ∷ u) v h =
    ⊎_elim (λ e. place_here (u ++ v) e ∙ sym (place_here u e))
    (λ d. place_past (u ++ v) d.0 ∙ ap suc (place_left r u v (sym (has_past u d.0) ∙ h)) ∙ sym (place_past u d.0))
    (eq_cases x r)

pub place_right : (r : ℕ) (u v : List ℕ) → has u r ≡ false → place_of (u ++ v) r ≡ length u + place_of v r
place_right r [] v h = omega arith
place_right r (x ∷ u) v h =
    ⊎_elim (λ e. absurd (true-false (has_here u e) h))
    (λ d. place_past (u ++ v) d.0 ∙ omega (arith, place_right r u v (sym (has_past u d.0) ∙ h)))
    (eq_cases x r)

pub place_start : (r : ℕ) (xs : List ℕ) → place_of (r ∷ xs) r ≡ 0
place_start r xs = place_here xs refl

-- a kept pair
pub kept : (ps : List Pair) (l : List ℕ) (p : Pair) → keeps ps l ≡ true → Memᴰ p ps → place_of l p.earlier < place_of l p.later
unfolding keeps
kept ps l p h m =
    ltb-true (place_of l p.earlier) (place_of l p.later) (all_true (λ p. ltb (place_of l p.earlier) (place_of l p.later)) p h m)

-- Number by number

pub smaller_prefix : (u a b : List ℕ) → smaller (u ++ a) (u ++ b) ≡ smaller a b
unfolding smaller ◌or◌ ◌and◌
smaller_prefix [] a b = refl
smaller_prefix (x ∷ u) a b = rw (le-ltb x x (omega arith), eqb_self x) (smaller_prefix u a b)

pub smaller-nil : (a : List ℕ) → smaller a [] ≡ false
unfolding smaller
smaller-nil [] = refl
smaller-nil (x ∷ a) = refl

pub smaller_from_nil : (b : List ℕ) → smaller [] b ≡ false
unfolding smaller
smaller_from_nil b = refl

-- a greater first number decides, and equal ones leave it to the rest
pub smaller_greater : (x y : ℕ) (xs ys : List ℕ) → y < x → smaller (x ∷ xs) (y ∷ ys) ≡ false
unfolding smaller ◌or◌ ◌and◌
smaller_greater x y xs ys h = rw (le-ltb x y (omega arith), ne_eqb x y (λ e. omega arith))

pub smaller_equal : (x y : ℕ) (xs ys : List ℕ) → x ≡ y → smaller (x ∷ xs) (y ∷ ys) ≡ smaller xs ys
unfolding smaller ◌or◌ ◌and◌
smaller_equal x y xs ys e = rw (le-ltb x y (omega arith), eq-eqb x y e)

pub smaller_less : (x y : ℕ) (xs ys : List ℕ) → x < y → smaller (x ∷ xs) (y ∷ ys) ≡ true
unfolding smaller ◌or◌ ◌and◌
smaller_less x y xs ys h = rw (lt-ltb x y h)

-- two lists of a length, neither smaller, are equal
pub neither_smaller : (xs ys : List ℕ) → length xs ≡ length ys → smaller xs ys ≡ false → smaller ys xs ≡ false → xs ≡ ys
neither_smaller [] [] e h k = refl
neither_smaller [] (y ∷ ys) e h k = absurd (omega arith)
neither_smaller (x ∷ xs) [] e h k = absurd (omega arith)
neither_smaller (x ∷ xs) (y ∷ ys) e h k =
    ⊎_elim
    (λ q.
    let t : xs ≡ ys = neither_smaller xs ys (omega arith) (sym (smaller_equal x y xs ys q) ∙ h) (sym (smaller_equal y x ys xs (sym q)) ∙ k) in
    cc)
    (λ d. ⊎_elim (λ l. absurd (true-false (smaller_less x y xs ys (omega (arith, d.0))) h)) (λ g. absurd (true-false (smaller_less y x ys xs g) k)) (le_cases x y))
    (eq_cases x y)
