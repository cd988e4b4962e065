-- How long the lists are that searches go through, and how many elements of a list pass a test.
use Prim.Native.Nat.{ℕ, zero, suc, ◌*◌, ◌≤◌, ◌<◌}
use native.Mathlib.Omega.{arith}
use native.Mathlib.Nat.{zero-mul, suc-mul}
use mathlib.Core.Path.{◌≡◌, refl, sym, ap, ◌∙◌}
use mathlib.Core.Logic.{⊎_elim}
use mathlib.Core.Bool.{Bool, true, false}
use mathlib.Core.List.Memᴰ
use mathlib.Core.List.{List, [], ◌∷◌, ◌++◌, Memᴰ}
use lib.ListN.{length, get_or, replicate, length-append}
use Rattle.logic.specs.Search.{from, select, flat_map}
use Rattle.theory.proofs.Basics.Search.{bool_cases}
use Rattle.theory.proofs.Basics.Compare.{cond-true, cond-false}

pub length_from : (k i : ℕ) → length (from k i) ≡ k
unfolding from
length_from zero i = refl
length_from (suc k) i = ap suc (length_from k (suc i))

pub get_d_mem : {A : Type 0} (xs : List A) (i : ℕ) (d : A) → i < length xs → Memᴰ (get_or xs i d) xs
get_d_mem [] i d h = absurd (omega arith)
get_d_mem (x ∷ xs) zero d h = Memᴰ.head refl
get_d_mem (x ∷ xs) (suc i) d h = Memᴰ.tail (get_d_mem xs i d (omega arith))

-- zeros, also behind a list
pub get_d_zeros : (k i : ℕ) → ◌≡◌ {A = ℕ} (get_or (replicate k 0) i 0) 0
get_d_zeros zero i = refl
get_d_zeros (suc k) zero = refl
get_d_zeros (suc k) (suc i) = get_d_zeros k i

pub get_d_behind : (xs : List ℕ) (k i : ℕ) → get_or (xs ++ replicate k 0) i 0 ≡ get_or xs i 0
get_d_behind [] k i = get_d_zeros k i
get_d_behind (x ∷ xs) k zero = refl
get_d_behind (x ∷ xs) k (suc i) = get_d_behind xs k i

-- lists of one length, one behind the other
pub length-flat_map : {A B : Type 0} (f : A → List B) (m : ℕ) → ((x : A) → length (f x) ≡ m) → (xs : List A) → length (flat_map f xs) ≡ length xs * m
unfolding flat_map
length-flat_map f m each [] = sym (zero-mul m)
length-flat_map f m each (x ∷ xs) =
    length-append (f x) (flat_map f xs) ∙ omega (arith, each x, length-flat_map f m each xs, suc-mul (length xs) m)

module _ {A : Type 0} where
  -- how many are selected, by whether the first is
  select_more : (p : A → Bool) (x : A) (xs : List A) → p x ≡ true → length (select p (x ∷ xs)) ≡ suc (length (select p xs))
  unfolding select
  select_more p x xs e = ap length (cond-true (x ∷ select p xs) (select p xs) e)

  select-same : (p : A → Bool) (x : A) (xs : List A) → p x ≡ false → length (select p (x ∷ xs)) ≡ length (select p xs)
  unfolding select
  select-same p x xs e = ap length (cond-false (x ∷ select p xs) (select p xs) e)

  pub select-length : (p : A → Bool) (xs : List A) → length (select p xs) ≤ length xs
  unfolding select
  select-length p [] = omega arith
  select-length p (x ∷ xs) =
      let ih = select-length p xs in
      ⊎_elim (λ e. omega (arith, select_more p x xs e)) (λ e. omega (arith, select-same p x xs e)) (bool_cases (p x))

  -- fewer are selected by a test that passes less
  module _ (p p' : A → Bool) (less : (x : A) → p' x ≡ true → p x ≡ true) where
    pub select-le : (xs : List A) → length (select p' xs) ≤ length (select p xs)
    unfolding select
    select-le [] = omega arith
    select-le (x ∷ xs) =
        let ih = select-le xs in
        ⊎_elim
        (λ e. omega (arith, select_more p' x xs e, select_more p x xs (less x e)))
        (λ e. ⊎_elim (λ f. omega (arith, select-same p' x xs e, select_more p x xs f)) (λ f. omega (arith, select-same p' x xs e, select-same p x xs f)) (bool_cases (p x)))
        (bool_cases (p' x))

    pub select-lt : (y : A) (xs : List A) → Memᴰ y xs → p y ≡ true → p' y ≡ false → length (select p' xs) < length (select p xs)
    select-lt y [] m h h' = absurd (Memᴰ.not-nil m)
    select-lt y (x ∷ xs) m h h' =
        let le = select-le xs in
        ⊎_elim
        (λ q. omega (arith, select-same p' x xs (ap p' (sym q) ∙ h'), select_more p x xs (ap p (sym q) ∙ h)))
        (λ k. let ih = select-lt y xs k h h' in
        ⊎_elim
        (λ e. omega (arith, select_more p' x xs e, select_more p x xs (less x e)))
        (λ e. ⊎_elim (λ f. omega (arith, select-same p' x xs e, select_more p x xs f)) (λ f. omega (arith, select-same p' x xs e, select-same p x xs f)) (bool_cases (p x)))
        (bool_cases (p' x)))
        (Memᴰ.cases_cons m)
