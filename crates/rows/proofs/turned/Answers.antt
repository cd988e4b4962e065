-- One column more as a row; all of them at the end.
use Rattle.std.proofs.Common.{◌≡◌, arith}
use Rattle.std.proofs.Math.ListN.{length-set}
use Rattle.rows.proofs.Turning.{turned_more, turned_all}
use Rattle.rows.proofs.turned.Goals as goal

pub loop-y-preserved : goal.loop-y-preserved
loop-y-preserved c =
    let l = c.loop-y.invariant in
    (simp length-set l.0, turned_more _ _ c.loop-y.y (omega arith) c.loop-y.out l.0 _ c.column.ensures l.1)

pub returns : goal.returns
returns c = let whole : c.loop-y.y ≡ 17 = omega arith in turned_all _ _ _ (rw whole at c.loop-y.invariant.1)
