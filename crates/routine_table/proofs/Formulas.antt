-- A part is read from its sides: how often they may be followed plays no part, once it is often enough.
use Prim.Native.Nat.{ℕ, zero, suc, ◌≤◌, ◌<◌}
use native.Mathlib.Omega.{arith}
use borrow.Author.Tests.{ltb-true, lt-ltb, le-ltb}
use mathlib.Core.Path.{◌≡◌, refl, ap₂}
use mathlib.Core.Bool.{Bool, true, false, cond}
use lib.Dec.{ltb}
use Rattle.routine_logic.specs.Syntax.{Formula, never}
use Rattle.routine_table.specs.Cells.{Table, most_parts, part_cell}
use Rattle.routine_table.specs.Formulas.{join_of, formula_within, formula_at, formula_below, formula_of}

-- what is asked only where a test holds
pub cond_same : {A : Type 0} (b : Bool) (x y z : A) → (b ≡ true → x ≡ y) → cond b x z ≡ cond b y z
cond_same true x y z h = h refl
cond_same false x y z h = refl

module _ (t : Table) where
  side_same : (m n i j : ℕ) → (j < i → formula_within t m j ≡ formula_within t n j) → cond (ltb j i) (formula_within t m j) never ≡ cond (ltb j i) (formula_within t n j) never
  side_same m n i j h = cond_same (ltb j i) _ _ never (λ e. h (ltb-true j i e))

  pub within_same : (m n i : ℕ) → i < m → i < n → formula_within t m i ≡ formula_within t n i
  unfolding formula_within
  within_same zero n i h k = absurd (omega arith)
  within_same (suc m) zero i h k = absurd (omega arith)
  within_same (suc m) (suc n) i h k =
      ap₂ (λ (f g : Formula). join_of t i f g)
      (side_same m n i (part_cell t i 1) (λ l. within_same m n (part_cell t i 1) (omega (arith, h, l)) (omega (arith, k, l))))
      (side_same m n i (part_cell t i 2) (λ l. within_same m n (part_cell t i 2) (omega (arith, h, l)) (omega (arith, k, l))))

  below_is : (i j : ℕ) → cond (ltb j i) (formula_within t i j) never ≡ formula_below t i j
  unfolding formula_below formula_at
  below_is i j = cond_same (ltb j i) _ _ never (λ e. within_same i (suc j) j (ltb-true j i e) (omega arith))

  -- a part, from its sides
  pub formula_at_lem : (i : ℕ) → formula_at t i ≡ join_of t i (formula_below t i (part_cell t i 1)) (formula_below t i (part_cell t i 2))
  unfolding formula_at formula_within
  formula_at_lem i = ap₂ (λ (f g : Formula). join_of t i f g) (below_is i (part_cell t i 1)) (below_is i (part_cell t i 2))

  -- a side
  pub below_here : (n i : ℕ) → i < n → formula_below t n i ≡ formula_at t i
  unfolding formula_below
  below_here n i h = rw (lt-ltb i n h)

  pub below_none : (n i : ℕ) → n ≤ i → formula_below t n i ≡ never
  unfolding formula_below
  below_none n i h = rw (le-ltb i n h)

  -- a formula that a clause or a statement names
  pub formula_of_lem : (i : ℕ) → formula_of t i ≡ formula_below t most_parts i
  unfolding formula_of
  formula_of_lem i = refl
