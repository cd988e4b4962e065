-- One bit is set in a row of the link.
use Rattle.std.proofs.Math.ListN.{length-set}
use Rattle.link_rows.proofs.Cube.{cube_added}
use Rattle.link_rows.proofs.add.Goals as goal

pub returns : goal.returns
returns c = let p = c.requires in (cube_added _ p.4 _ _ _ _ p.0 p.1 p.2 p.3 _ c.place.ensures.0 c.only.ensures, simp length-set p.4)
