-- The rows of a link are a part of all.
use Rattle.std.proofs.Common.{ap, ◌∙◌}
use Rattle.rows.specs.Square.{square}
use Rattle.link_rows.proofs.Cube.{part_square}
use Rattle.link_rows.proofs.rows_of.Goals as goal

pub returns : goal.returns
returns c = ap square c.copy_from_slice.ensures.after ∙ part_square _ _ c.requires.0 _ c.place-from.ensures.0
