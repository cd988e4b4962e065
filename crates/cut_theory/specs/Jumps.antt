-- Reaching by cut links and jumps (03, "A way"): "by h from a to b, or by h from a to some xi .. from there by a jump to yi .. and so on, each xi at most
-- once".
use Rattle.std.specs.Prelude.{ℕ, zero, suc, ◌⊎◌, ◌≡◌, Bool, true, not, eqb}
use mathlib.Core.List.{List, Memᴰ}
use Rattle.logic.specs.Search.{select}
use Rattle.logic.specs.Heap.{Reaches}

-- the numbers but one
unfoldable pub without : ℕ → List ℕ → List ℕ
without i is = select (λ j. not (eqb j i)) is

-- at most m jumps, of the cuts that are left, each from a cut c i that is active and not to be avoided to its target t i
module _ (h c t : ℕ → ℕ) (acts : ℕ → Bool) (Avoid : ℕ → Type 0) where
  unfoldable pub Jumps : ℕ → List ℕ → ℕ → ℕ → Type 0
  Jumps zero left a b = Reaches h a b
  Jumps (suc m) left a b =
      Reaches h a b
      ⊎ ((i : ℕ) × Memᴰ i left × Reaches h a (c i) × (acts i ≡ true) × (Avoid (c i) → ⊥) × Jumps m (without i left) (t i) b)
