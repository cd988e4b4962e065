-- By computation. Assumes nothing.
use mathlib.Core.Path.{refl}
use Rattle.between_tests.proofs.due_pair.Statement.{statement}
use Rattle.between_tests.proofs.due_pair.Tie as tie
use Rattle.between_search.specs.Tests.{due_pair}

pub due_pair_spec : {M : Type 1} → statement M
unfolding due_pair
due_pair_spec =
    tie.close
    (tie.spec
    -- returns
    (λ c. refl))
