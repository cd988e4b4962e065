-- After b rows, those are told.
use Rattle.std.proofs.Common.{◌≡◌, arith}
use Rattle.rows.proofs.Fill.{filled_none}
use Rattle.units.proofs.Marks.{having_more, having_same, having_all}
use Rattle.units.proofs.having.Goals as goal
use Rattle.units.proofs.having.Goals.{then-row-some-ne0, else-row-some-ne0}

pub loop-b-init : goal.loop-b-init
loop-b-init c = filled_none _ _

pub loop-b-preserved : goal.loop-b-preserved
loop-b-preserved c =
    let l = c.loop-b in
    let a = c.args in
    elim c.if-row-some-ne0.branch [
      | then-row-some-ne0 w ↦ having_more a.some a.rows.now l.b l.out _ _ (omega arith) c.ranges.some.fits w.if-row-some-ne0.true w.only-out.ensures w.out-is l.invariant
      | else-row-some-ne0 w ↦ having_same a.some a.rows.now l.b l.out _ (omega arith) w.if-row-some-ne0.false w.out-is l.invariant
    ]

pub returns : goal.returns
returns c = let all : c.loop-b.b ≡ 17 = omega arith in having_all c.args.some c.args.rows.now _ (rw all at c.loop-b.invariant)
