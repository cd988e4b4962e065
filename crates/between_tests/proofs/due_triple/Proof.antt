-- By computation. Assumes nothing.
use mathlib.Core.Path.{refl}
use Rattle.between_tests.proofs.due_triple.Statement.{statement}
use Rattle.between_tests.proofs.due_triple.Tie as tie
use Rattle.between_search.specs.Tests.{due_triple}

pub due_triple_spec : {M : Type 1} → statement M
unfolding due_triple
due_triple_spec =
    tie.close
    (tie.spec
    -- returns
    (λ c. refl))
