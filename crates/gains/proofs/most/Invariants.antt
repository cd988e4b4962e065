-- What is best is a proposal.
use Rattle.facts.specs.Path.{path_of}
use Rattle.gains.specs.Keeps.{ProposesBest}
use Rattle.gains.proofs.most.Given as goal

abbrev pub invariant-loop-k : goal.invariant-loop-k
invariant-loop-k l = ProposesBest l.n (path_of l.s) l.best
