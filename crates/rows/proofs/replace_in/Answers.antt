-- First the columns, then the rows.
use Rattle.std.proofs.Common.{ap, ◌∙◌}
use Rattle.rows.specs.Square.{rows}
use Rattle.rows.proofs.Merge.{replaced}
use Rattle.rows.proofs.replace_in.Goals as goal

pub returns : goal.returns
returns c = (c.merge_rows.ensures.0 ∙ ap (rows _ _) c.merge_columns.ensures.0 ∙ replaced _ _ _, c.merge_rows.ensures.1)
