use Rattle.std.proofs.Common.{arith}
use Rattle.query.proofs.Reading.{missing, above, short}
use Rattle.query.proofs.read_section.Goals as goal

pub returns-then-at-len : goal.returns-then-at-len
returns-then-at-len c s ss l x w = rw c.at.ensures (missing s ss _ _ c.if-at-len.true)

pub returns-then-limit-count : goal.returns-then-limit-count
returns-then-limit-count c s ss l x w =
    rw (c.at-then-limit-count.ensures, ← x) (above s ss _ _ (omega arith) (omega arith))

pub returns-then-left-size : goal.returns-then-left-size
returns-then-left-size c s ss l x w =
    rw c.at-then-left-size.ensures (short s ss _ _ (omega arith) (omega arith) (rw w (omega arith)))
