-- Among n + 1 numbers below n, two are equal.
use Prim.Native.Nat.{ℕ, zero, suc, ◌≤◌, ◌<◌}
use native.Mathlib.Omega.{arith}
use native.Mathlib.Nat.{eq-or-lt_of_le, le_of_suc-le-suc}
use native.Mathlib.Decide.{ℕ_discrete}
use mathlib.Core.Path.{◌≡◌, refl, sym, ap, ◌∙◌}
use mathlib.Core.Logic.{◌⊎◌, ⊎_elim, inl, inr}

-- f has the value y at a number below k, or at none
abbrev HasOrNot : (ℕ → ℕ) → ℕ → ℕ → Type 0
HasOrNot f y k = ((i : ℕ) × (i < k) × (f i ≡ y)) ⊎ ((i : ℕ) → i < k → f i ≡ y → ⊥)

has_or-not : (f : ℕ → ℕ) (y k : ℕ) → HasOrNot f y k
has_or-not f y zero = inr (λ i l e. omega arith)
has_or-not f y (suc k) = go (ℕ_discrete (f k) y) (has_or-not f y k)
  where
    go : Dec (f k ≡ y) → HasOrNot f y k → HasOrNot f y (suc k)
    go (yes e) r = inl (k, omega arith, e)
    go (no d) (inl r) = inl (r.0, omega arith, r.2)
    go (no d) (inr r) = inr (λ i l e. ⊎_elim (λ q. d (ap f (sym q) ∙ e)) (λ q. r i q e) (eq-or-lt_of_le (le_of_suc-le-suc l)))

-- y is what f has at i or, if that is n, what f has at n + 1
abbrev Skipped : (ℕ → ℕ) → ℕ → ℕ → ℕ → Type 0
Skipped f n i y = ((f i ≡ n) × (y ≡ f (suc n))) ⊎ ((f i ≡ n → ⊥) × (y ≡ f i))

skip : (f : ℕ → ℕ) (n i : ℕ) → (y : ℕ) × Skipped f n i y
skip f n i = elim (ℕ_discrete (f i) n) [ yes e ↦ (f (suc n), inl (e, refl)) | no d ↦ (f i, inr (d, refl)) ]

-- where f (n + 1) differs from all values up to n, skipping n leaves numbers below n, and makes no two equal
module _ (n : ℕ) (f : ℕ → ℕ) (other : (i : ℕ) → i < suc n → f i ≡ f (suc n) → ⊥) where
  skip_below : ((i : ℕ) → i ≤ suc n → f i < suc n) → (i : ℕ) → i ≤ n → (skip f n i).0 < n
  skip_below h i l =
      let a : f i < suc n = h i (omega arith) in
      let b : f (suc n) < suc n = h (suc n) (omega arith) in
      let d : f i ≡ f (suc n) → ⊥ = other i (omega arith) in
      ⊎_elim (λ c. omega (arith, c.0, c.1)) (λ c. omega (arith, c.0, c.1)) (skip f n i).1

  skip_same : (i j : ℕ) → i ≤ n → j ≤ n → (skip f n i).0 ≡ (skip f n j).0 → f i ≡ f j
  skip_same i j l m e = go (skip f n i) (skip f n j) e
    where
      go : (x : (y : ℕ) × Skipped f n i y) (z : (y : ℕ) × Skipped f n j y) → x.0 ≡ z.0 → f i ≡ f j
      go (x, inl a) (y, inl b) e = a.0 ∙ sym b.0
      go (x, inl a) (y, inr b) e = absurd (other j (omega arith) (sym b.1 ∙ sym e ∙ a.1))
      go (x, inr a) (y, inl b) e = absurd (other i (omega arith) (sym a.1 ∙ e ∙ b.1))
      go (x, inr a) (y, inr b) e = sym a.1 ∙ e ∙ b.1

pub pigeonhole : (n : ℕ) (f : ℕ → ℕ) → ((i : ℕ) → i ≤ n → f i < n) → (i : ℕ) × (j : ℕ) × (i < j) × (j ≤ n) × (f i ≡ f j)
pigeonhole zero f h = absurd (omega (arith, h 0 (omega arith)))
pigeonhole (suc n) f h =
    ⊎_elim (λ (i, l, e). (i, suc n, l, omega arith, e))
    (λ d. let (i, j, l, m, e) = pigeonhole n (λ i. (skip f n i).0) (skip_below n f d h) in (i, j, l, omega arith, skip_same n f d i j (omega arith) m e))
    (has_or-not f (f (suc n)) (suc n))
