-- After y rows, those are told.
use Rattle.std.proofs.Common.{◌≡◌, length}
use Rattle.units.proofs.Marks.{Leaving}
use Rattle.units.proofs.struck.Given as goal

abbrev pub invariant-loop-y : goal.invariant-loop-y
invariant-loop-y l = (length l.out ≡ 17) × Leaving l.no.ahead l.no.behind l.graph.reach l.graph.back l.initial.out l.y l.out
