-- A row is written, where it is one.
use Rattle.std.proofs.Math.ListN.{length-set}
use Rattle.units.proofs.Marks.{row_marked, row_kept}
use Rattle.units.proofs.mark.Goals as goal

pub returns-then-a-lt17 : goal.returns-then-a-lt17
returns-then-a-lt17 c = (row_marked _ _ _ c.requires c.if-a-lt17.true, simp length-set c.requires)

pub returns-else-a-lt17 : goal.returns-else-a-lt17
returns-else-a-lt17 c = (row_kept _ _ _ c.if-a-lt17.false, c.requires)
