-- After j steps back the marks are what j pairs lead from.
use Rattle.pair_rings.proofs.Turns.{Row}
use Rattle.pair_rings.proofs.row_to.Given as goal

abbrev pub invariant-loop-j : goal.invariant-loop-j
invariant-loop-j l = Row l.sheet l.z l._j l.row
