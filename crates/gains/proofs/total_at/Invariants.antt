-- What is best stays a proposal.
use Rattle.std.proofs.Common.{ℕ}
use Rattle.gains.specs.Keeps.{Keeps}
use Rattle.gains.proofs.total_at.Given as goal

abbrev pub invariant-loop-z : goal.invariant-loop-z
invariant-loop-z l = (n : ℕ) → Keeps n l.graph l.fn.best l.best
