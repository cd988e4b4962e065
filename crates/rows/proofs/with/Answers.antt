-- With the bit, or as it was.
use Rattle.rows.proofs.Words.{bit_with, bit_as_it_was}
use Rattle.rows.proofs.with.Goals as goal

pub returns-then-wanted : goal.returns-then-wanted
returns-then-wanted c i = bit_with _ _ _ c.only.ensures i _ c.if-wanted.true

pub returns-else-wanted : goal.returns-else-wanted
returns-else-wanted c i = bit_as_it_was _ _ i _ c.if-wanted.false
