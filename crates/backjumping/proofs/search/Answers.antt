-- The nogood that the path holds leaves it no heap.
use Rattle.nogoods.proofs.Branching.{path_zero}
use Rattle.backjumping.proofs.Finding.{no_heap}
use Rattle.backjumping.proofs.search.Goals as goal

pub returns-in-Refuted : goal.returns-in-Refuted
returns-in-Refuted c = let p = c.requires in no_heap _ _ p.1 p.2 (path_zero _ c.if-s-ne0.false) c.in-Refuted.field-0 c.in-Refuted.ensures
