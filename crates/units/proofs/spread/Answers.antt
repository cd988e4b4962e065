-- After a rows, those of some have more.
use Rattle.std.proofs.Common.{◌≡◌, length, sym, ap, ◌∙◌, arith}
use Rattle.std.proofs.Math.ListN.{length-set}
use Rattle.units.proofs.Marks.{spread_more, spread_same, spread_all}
use Rattle.units.proofs.spread.Goals as goal
use Rattle.units.proofs.spread.Goals.{then-has, else-has}

pub loop-a-preserved : goal.loop-a-preserved
loop-a-preserved c =
    let l = c.loop-a in
    elim c.if-has.branch [
      | then-has w ↦ (
        ap length w.rows-is ∙ simp length-set l.invariant.0,
        spread_more _ _ _ l.a _ _ (omega arith) l.invariant.0 (sym c.has.ensures ∙ w.if-has.true) w.rows-is l.invariant.1,
      )
      | else-has w ↦ (
        ap length w.rows-is ∙ l.invariant.0,
        spread_same _ _ _ l.a _ _ (omega arith) (sym c.has.ensures ∙ w.if-has.false) w.rows-is l.invariant.1,
      )
    ]

pub returns : goal.returns
returns c = let all : c.loop-a.a ≡ 17 = omega arith in (spread_all _ _ _ _ (rw all at c.loop-a.invariant.1), c.loop-a.invariant.0)
