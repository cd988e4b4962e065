-- The rows are read of a link that the path has.
use Rattle.std.proofs.Common.{refl}
use Rattle.units.proofs.Rows.{links_few, rows_of}
use Rattle.units.proofs.graph.Graph.of.Goals as goal

pub rows_of-link-requires : goal.rows_of-link-requires
rows_of-link-requires c = (c.requires.0, links_few _ _ c.requires)

pub rows_of-reach-requires : goal.rows_of-reach-requires
rows_of-reach-requires c = (c.requires.0, links_few _ _ c.requires)

pub returns : goal.returns
returns c = (rows_of _ _ _ _ c.requires c.rows_of-link.ensures c.rows_of-reach.ensures, refl)
