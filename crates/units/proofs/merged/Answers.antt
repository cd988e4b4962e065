-- After x rows, those are merged.
use Rattle.std.proofs.Common.{◌≡◌, arith}
use Rattle.units.proofs.Marks.{merged_more, merged_all}
use Rattle.units.proofs.merged.Goals as goal

pub loop-x-preserved : goal.loop-x-preserved
loop-x-preserved c = let l = c.loop-x in (c.mark.ensures.1, merged_more _ _ _ l.x _ _ (omega arith) c.mark.ensures.0 l.invariant.1)

pub returns : goal.returns
returns c = let all : c.loop-x.x ≡ 17 = omega arith in merged_all _ _ _ _ (rw all at c.loop-x.invariant.1)
