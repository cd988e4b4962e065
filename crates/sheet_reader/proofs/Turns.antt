-- Tests as a loop over the sheet's bytes meets them: what is left equals the whole.
use Prim.Native.Nat.{ℕ, ◌+◌, ◌≤◌, ◌<◌}
use mathlib.Core.Path.{◌≡◌}
use mathlib.Core.Bool.{Bool, true, false}
use mathlib.Core.List.{List}
use lib.ListN.{length, get_or, drop, drop_of_length-le}
use Rattle.logic.specs.Search.{◌and◌, all}
use Rattle.entries.proofs.Loops.{drop_next}

-- every byte from i on passes a test
module _ (p : ℕ → Bool) (xs : List ℕ) where
  pub every_end : (i : ℕ) → length xs ≤ i → all p (drop i xs) ≡ true
  unfolding all
  every_end i h = rw (drop_of_length-le xs h)

  pub every_fails : (i : ℕ) → i < length xs → p (get_or xs i 0) ≡ false → all p (drop i xs) ≡ false
  unfolding all ◌and◌
  every_fails i h e = rw (drop_next xs i h, e)

  pub every_next : (i : ℕ) → i < length xs → p (get_or xs i 0) ≡ true → all p (drop i xs) ≡ all p (drop (i + 1) xs)
  unfolding all ◌and◌
  every_next i h e = rw (drop_next xs i h, e)
