-- After a rows, those of some have more.
use Rattle.std.proofs.Common.{◌≡◌, length}
use Rattle.units.proofs.Marks.{Spreading}
use Rattle.units.proofs.spread.Given as goal

abbrev pub invariant-loop-a : goal.invariant-loop-a
invariant-loop-a l = (length l.rows ≡ 17) × Spreading l.initial.rows l.some l.more l.a l.rows
