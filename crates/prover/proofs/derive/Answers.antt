-- The verdict first; the lines where it is refuted.
use Rattle.prover.proofs.Outcomes.{derivation_satisfiable}
use Rattle.prover.proofs.derive.Goals as goal

pub returns-in-Some : goal.returns-in-Some
returns-in-Some c = derivation_satisfiable _ _ _ _ c.in-Some.ensures c.requires.3
