-- No fact where a number is no term.
use Rattle.std.proofs.Common.{sym, arith}
use Rattle.rows.proofs.Square.{square_above, square_beside}
use Rattle.rows.proofs.is_held.Goals as goal
use Rattle.rows.proofs.is_held.Goals.{then-a-gt16-via-then-a-gt16, then-a-gt16-via-else-a-gt16+then-b-gt16}

pub returns-then-a-gt16 : goal.returns-then-a-gt16
returns-then-a-gt16 c =
    elim c.then-a-gt16.branch [
      | then-a-gt16-via-then-a-gt16 w ↦ sym (square_above _ _ _ (omega arith))
      | then-a-gt16-via-else-a-gt16+then-b-gt16 w ↦ sym (square_beside _ _ _ (omega arith))
    ]
