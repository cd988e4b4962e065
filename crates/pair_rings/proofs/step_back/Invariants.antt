-- The marks so far and the pairs left make the whole.
use Rattle.std.proofs.Common.{◌≡◌, length}
use Rattle.ordering.specs.Sheet.{count_of}
use Rattle.pair_rings.proofs.Turns.{Marks}
use Rattle.pair_rings.proofs.step_back.Given as goal

abbrev pub invariant-loop-i : goal.invariant-loop-i
invariant-loop-i l = (l.end ≡ count_of l.sheet) × (length l.out ≡ 9) × Marks l.sheet l.row l.end l.i l.out
