use Rattle.between_tests.proofs.Laws.{agrees_beq}
use Rattle.between_tests.proofs.agrees.Goals as goal

pub returns : goal.returns
returns c = agrees_beq _ _
