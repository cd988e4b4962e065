-- One row more of the column; all of them at the end.
use Rattle.std.proofs.Common.{◌≡◌, arith}
use Rattle.rows.proofs.Turning.{column_more, column_all}
use Rattle.rows.proofs.column.Goals as goal

pub loop-z-preserved : goal.loop-z-preserved
loop-z-preserved c = column_more _ _ (omega arith) c.loop-z.z (omega arith) c.loop-z.out _ _ c.has.ensures c.with-out.ensures c.loop-z.invariant

pub returns : goal.returns
returns c = let whole : c.loop-z.z ≡ 17 = omega arith in column_all _ _ _ (rw whole at c.loop-z.invariant)
