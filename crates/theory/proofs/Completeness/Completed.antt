-- What graph theory gives of a saturated path: the links that 000, Def. 4 gives make the known links a whole function, and what it
-- reaches is what the path holds. Here the two halves of "satisfiable is right" meet.
use Prim.Native.Nat.{ℕ}
use mathlib.Core.Path.{◌≡◌}
use mathlib.Core.Logic.{◌↔◌}
use mathlib.Core.Bool.{true}
use mathlib.Core.List.{List, Memᴰ}
use Rattle.logic.specs.Heap.{Reaches}
use Rattle.logic.specs.Facts.{Graph}
use Rattle.logic.specs.Rules.{next}
use Rattle.logic.specs.Shown.{link_each}

pub record Completed (n : ℕ) (vs : List ℕ) (g : Graph) : Type 0 where
  pub completed_in : (v : ℕ) → Memᴰ v vs → Memᴰ (link_each n g (next n g) vs v) vs
  pub completed_known : (v w : ℕ) → g.link v w ≡ true → link_each n g (next n g) vs v ≡ w
  pub completed_reach : (v w : ℕ) → Memᴰ v vs → (g.reach v w ≡ true) ↔ Reaches (link_each n g (next n g) vs) v w
