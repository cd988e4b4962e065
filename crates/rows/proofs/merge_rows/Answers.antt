-- Two rows are written.
use Rattle.std.proofs.Math.ListN.{length-set}
use Rattle.rows.proofs.Merge.{rows_merged}
use Rattle.rows.proofs.merge_rows.Goals as goal

pub returns : goal.returns
returns c = (rows_merged _ _ c.args.pair.lower c.args.pair.few _ c.requires, simp length-set c.requires)
