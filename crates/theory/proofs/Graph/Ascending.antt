-- Ascending lists of numbers.
use Prim.Native.Nat.{ℕ, zero, suc, ◌≤◌}
use native.Mathlib.Omega.{arith}
use mathlib.Core.Bool.{Bool, true, false, cond}
use mathlib.Core.List.{List, [], ◌∷◌}
use Rattle.logic.specs.Search.{from, select}

-- each number is above the one before, and the first is at least i
abbrev pub Ascending : ℕ → List ℕ → Type 0
Ascending i [] = Unit {0}
Ascending i (x ∷ xs) = (i ≤ x) × Ascending (suc x) xs

pub ascending_weaken : (i j : ℕ) (xs : List ℕ) → i ≤ j → Ascending j xs → Ascending i xs
ascending_weaken i j [] l h = tt
ascending_weaken i j (x ∷ xs) l h = (omega arith, h.1)

pub ascending_from : (k i : ℕ) → Ascending i (from k i)
unfolding from
ascending_from zero i = tt
ascending_from (suc k) i = (omega arith, ascending_from k (suc i))

pub ascending_select : (q : ℕ → Bool) (i : ℕ) (xs : List ℕ) → Ascending i xs → Ascending i (select q xs)
unfolding select
ascending_select q i [] h = tt
ascending_select q i (x ∷ xs) h = go (q x) (ascending_select q (suc x) xs h.1)
  where
    go : (b : Bool) → Ascending (suc x) (select q xs) → Ascending i (cond b (x ∷ select q xs) (select q xs))
    go true r = (h.0, r)
    go false r = ascending_weaken i (suc x) (select q xs) (omega arith) r
