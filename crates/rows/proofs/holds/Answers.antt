-- Bit b of row a.
use Rattle.std.proofs.Common.{sym, ◌∙◌, arith}
use Rattle.rows.proofs.Square.{square_in}
use Rattle.rows.proofs.holds.Goals as goal

pub returns : goal.returns
returns c = c.has.ensures ∙ sym (square_in _ _ _ (omega arith) (omega arith))
