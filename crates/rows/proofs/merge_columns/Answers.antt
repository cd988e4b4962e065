-- One row more is merged; all of them at the end.
use Rattle.std.proofs.Common.{◌≡◌, arith}
use Rattle.rows.proofs.Square.{square_above}
use Rattle.rows.proofs.Merge.{merge_more, merge_all}
use Rattle.rows.proofs.merge_columns.Goals as goal

pub loop-a-preserved : goal.loop-a-preserved
loop-a-preserved c =
    merge_more _ _ c.args.pair.lower c.args.pair.few _ c.loop-a.a (omega arith) c.loop-a.rows (omega arith) _ c.renamed_row.ensures c.loop-a.invariant

pub returns : goal.returns
returns c =
    let whole : c.loop-a.a ≡ 17 = omega arith in
    (merge_all _ _ c.args.pair.lower c.args.pair.few _ _ (rw whole at c.loop-a.invariant) (square_above _), omega arith)
