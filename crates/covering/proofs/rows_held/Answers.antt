-- All rows.
use Rattle.std.proofs.Common.{arith}
use Rattle.covering.proofs.Held.{below_all, rows_held}
use Rattle.covering.proofs.rows_held.Goals as goal

pub returns : goal.returns
returns c e = rows_held _ _ _ (below_all _ c.loop-a.a (omega arith) c.loop-a.invariant)
