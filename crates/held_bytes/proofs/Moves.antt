-- The order list, as far as it has come. Assumes nothing.
use Prim.Native.Nat.{ℕ, ◌≤◌, ◌<◌, min}
use native.Mathlib.Omega.{arith}
use mathlib.Core.Path.{◌≡◌, sym, ap, ◌∙◌}
use mathlib.Core.Logic.{⊎_elim}
use mathlib.Core.List.{List}
use lib.ListN.{length, take}
use lib.Seq.{take_all}
use Rattle.theory.proofs.Basics.Compare.{le_cases}

module _ (held : List ℕ) (ordered : ℕ) (o : ordered ≡ min (length held) 8) where
  pub order_lent : take ordered held ≡ take 8 held
  order_lent =
      ⊎_elim
      (λ (l : 8 ≤ length held). let n : ordered ≡ 8 = omega arith in ap (λ (k : ℕ). take k held) n)
      (λ (l : length held < 8). take_all ordered held (omega arith) ∙ sym (take_all 8 held (omega arith)))
      (le_cases 8 (length held))
