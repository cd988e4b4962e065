use Rattle.nogoods.proofs.Nogoods.{nogood_explained}
use Rattle.nogoods.proofs.explains.Goals as goal

pub returns-then-covers : goal.returns-then-covers
returns-then-covers c e = (c.covers-then-covers.ensures e, nogood_explained _ _ _ _ c.close.ensures.0 (c.covers.ensures c.if-covers.true))
