-- What is left of the pairs comes out as the whole.
use Rattle.checker.proofs.Judging.{HeadLeft}
use Rattle.checker.proofs.check_head.Given as goal

abbrev pub invariant-loop-i : goal.invariant-loop-i
invariant-loop-i l = HeadLeft l.derivation l.count l.pairs l.first l.i l.at
