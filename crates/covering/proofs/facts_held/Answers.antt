-- An empty row holds nothing; and one row.
use Rattle.std.proofs.Common.{arith}
use Rattle.covering.proofs.Held.{none_held, row_held}
use Rattle.covering.proofs.facts_held.Goals as goal

pub returns-then-row-eq0 : goal.returns-then-row-eq0
returns-then-row-eq0 c e = none_held _ _ _ _ (omega arith) c.if-row-eq0.true

pub returns-then-to-le16 : goal.returns-then-to-le16
returns-then-to-le16 c e = row_held _ _ _ _ (omega arith) _ c.read_rep-to.ensures (omega arith) (c.row_held.ensures e)
