-- After b rows, those are told.
use Rattle.units.proofs.Marks.{Having}
use Rattle.units.proofs.having.Given as goal

abbrev pub invariant-loop-b : goal.invariant-loop-b
invariant-loop-b l = Having l.some l.rows l.b l.out
