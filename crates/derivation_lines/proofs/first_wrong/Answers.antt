-- Wrong, lines that follow, or none.
use Rattle.derivation_lines.proofs.Wrong.{conclude_wrong, conclude_more, conclude_all}
use Rattle.derivation_lines.proofs.first_wrong.Goals as goal

pub returns-in-Err : goal.returns-in-Err
returns-in-Err c = rw c.in-Err.is (conclude_wrong _ _)

pub returns-in-Ok : goal.returns-in-Ok
returns-in-Ok c = rw c.in-Ok.is (conclude_more _ _ c.if-read-count.true)

pub returns-in-Ok-2 : goal.returns-in-Ok-2
returns-in-Ok-2 c = rw c.in-Ok.is (conclude_all _ _ c.if-read-count.false)
