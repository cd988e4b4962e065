-- What the row at the place of t has of the terms.
use Rattle.link_rows.proofs.Cube.{successors_at}
use Rattle.link_rows.proofs.successor_row.Goals as goal

pub returns : goal.returns
returns c = let p = c.requires in successors_at _ _ _ _ p.1 p.3 p.0 _ c.place.ensures.0 _ c.term_row.ensures
