-- What is best stays a proposal.
use Rattle.gains.specs.Keeps.{Keeps}
use Rattle.gains.proofs.most_by.Given as goal

abbrev pub invariant-loop-y : goal.invariant-loop-y
invariant-loop-y l = Keeps l.n l.graph l.fn.best l.best
