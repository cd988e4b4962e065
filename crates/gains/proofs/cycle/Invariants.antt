-- What is best stays a proposal.
use Rattle.gains.specs.Keeps.{Keeps}
use Rattle.gains.proofs.cycle.Given as goal

abbrev pub invariant-loop-x : goal.invariant-loop-x
invariant-loop-x l = Keeps l.n l.graph l.fn.best l.best
