use Rattle.logic.specs.Search.{◌or◌}
use Rattle.logic.specs.ThreeLinks.{may_precede}
use Rattle.byte_tests.proofs.may_precede.Goals as goal

pub returns-then-byte : goal.returns-then-byte
unfolding ◌or◌ may_precede
returns-then-byte c = rw c.if-byte.true

pub returns : goal.returns
unfolding ◌or◌ may_precede
returns c = rw c.if-byte.false c.is_link.ensures
