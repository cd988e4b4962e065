-- After x rows, those are merged.
use Rattle.std.proofs.Common.{◌≡◌, length}
use Rattle.units.proofs.Marks.{Merging}
use Rattle.units.proofs.merged.Given as goal

abbrev pub invariant-loop-x : goal.invariant-loop-x
invariant-loop-x l = (length l.out ≡ 17) × Merging l.a l.b l.c l.x l.out
