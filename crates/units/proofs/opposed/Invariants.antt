-- After a rows, those have what is opposed to them.
use Rattle.std.proofs.Common.{◌≡◌, length}
use Rattle.units.proofs.Marks.{Opposing}
use Rattle.units.proofs.opposed.Given as goal

abbrev pub invariant-loop-a : goal.invariant-loop-a
invariant-loop-a l = (length l.out ≡ 17) × Opposing l.initial.out l.some l.other l.a l.out
