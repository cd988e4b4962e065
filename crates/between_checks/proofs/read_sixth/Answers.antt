use Rattle.std.proofs.Common.{arith}
use Rattle.between_checks.proofs.Six.{sixth-above, sixth-short, sixth_trails}
use Rattle.between_checks.proofs.read_sixth.Goals as goal

pub returns-then-count-gt60 : goal.returns-then-count-gt60
returns-then-count-gt60 c n = rw c.at.ensures (sixth-above n _ _ (omega arith) (omega arith))

pub returns-then-left-size : goal.returns-then-left-size
returns-then-left-size c n =
    rw c.at-then-left-size.ensures (sixth-short n _ _ (omega arith) (omega arith) (omega arith))

pub returns-then-end-len : goal.returns-then-end-len
returns-then-end-len c n =
    rw c.at-then-end-len.ensures (sixth_trails n _ _ (omega arith) (omega arith) (omega arith))
