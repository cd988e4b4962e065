-- One number of the row.
use Rattle.std.proofs.Common.{sym, ◌∙◌, arith}
use Rattle.covering.proofs.Held.{held_here}
use Rattle.covering.proofs.held_at.Goals as goal

pub returns-then-to-le16 : goal.returns-then-to-le16
returns-then-to-le16 c e f = held_here _ _ _ c.read_rep-to.ensures (omega arith) (sym c.has-then-to-le16.ensures ∙ e)
