-- The rows of a link are a part of all.
use Rattle.std.proofs.Common.{◌∙◌}
use Rattle.link_rows.proofs.Cube.{back_long, replaced_by}
use Rattle.link_rows.proofs.replace_by.Goals as goal

pub returns : goal.returns
returns c = let p = c.requires in let r = c.replace_in.ensures in (
  replaced_by _ _ p.0 p.1 p.2 c.replace_in.new.rows r.1 _ c.place-from.ensures.0 _ _ r.0,
  back_long _ _ p.2 c.place-from.ensures.1 c.replace_in.new.rows r.1 ∙ p.2,
)
