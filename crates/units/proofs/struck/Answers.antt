-- After y rows, those are told.
use Rattle.std.proofs.Common.{◌≡◌, arith}
use Rattle.std.proofs.Math.ListN.{length-set}
use Rattle.units.proofs.Marks.{left-more, left_all}
use Rattle.units.proofs.struck.Goals as goal

pub loop-y-preserved : goal.loop-y-preserved
loop-y-preserved c =
    let l = c.loop-y in
    (simp length-set l.invariant.0, left-more _ _ _ _ _ l.y l.out _ (omega arith) l.invariant.0 c.without.ensures l.invariant.1)

pub returns : goal.returns
returns c = let all : c.loop-y.y ≡ 17 = omega arith in left_all _ _ _ _ _ _ (rw all at c.loop-y.invariant.1)
