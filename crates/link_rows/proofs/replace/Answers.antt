-- The links in order: none is replaced in at first, and one more after each turn.
use Rattle.link_rows.proofs.Cube.{replaced_none}
use Rattle.link_rows.proofs.replace.Goals as goal

pub loop-k-init : goal.loop-k-init
loop-k-init c = (c.requires.1, replaced_none _ _ _)
