-- The terms below t are told.
use Rattle.std.proofs.Common.{◌≡◌, ℕ}
use Rattle.facts.specs.Path.{rep_of}
use Rattle.covering.proofs.Held.{Below}
use Rattle.covering.proofs.same_reps.Given as goal

abbrev pub invariant-loop-t : goal.invariant-loop-t
invariant-loop-t l = Below (λ (t : ℕ). rep_of l.reps (rep_of l.olds t) ≡ rep_of l.reps t) l.t
