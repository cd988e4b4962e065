-- What is barred by the terms below x, and by those from x on, is all that is.
use Rattle.std.proofs.Common.{length, ap, ◌∙◌, refl, arith}
use Rattle.units.proofs.Marks.{bars_none, ahead_more, behind_more, ahead_same, behind_same, bars_all}
use Rattle.units.proofs.bars.Goals as goal
use Rattle.units.proofs.bars.Goals.{then-no-ne0, else-no-ne0}

pub loop-x-init : goal.loop-x-init
loop-x-init c = let b = bars_none c.args.reach.now c.args.denied.now 17 in (refl, refl, b.0, b.1)

pub loop-x-preserved : goal.loop-x-preserved
loop-x-preserved c =
    let l = c.loop-x in
    let a = c.args in
    elim c.if-no-ne0.branch [
      | then-no-ne0 w ↦ (
        ap length w.ahead-is ∙ w.spread.ensures.1,
        ap length w.behind-is ∙ w.spread-then-no-ne0.ensures.1,
        ahead_more a.reach.now a.denied.now l.x (omega arith) _ _ _ w.having-off.ensures _ w.ahead-is w.spread.ensures.0 l.invariant.2,
        behind_more a.reach.now a.denied.now l.x (omega arith) _ _ _ w.having-off.ensures _ w.behind-is w.spread-then-no-ne0.ensures.0 l.invariant.3,
      )
      | else-no-ne0 w ↦ (
        ap length w.ahead-is ∙ l.invariant.0,
        ap length w.behind-is ∙ l.invariant.1,
        ahead_same a.reach.now a.denied.now l.x (omega arith) _ _ w.if-no-ne0.false w.ahead-is l.invariant.2,
        behind_same a.reach.now a.denied.now l.x (omega arith) _ _ w.if-no-ne0.false w.behind-is l.invariant.3,
      )
    ]

pub returns-clause-reached : goal.returns-clause-reached
returns-clause-reached c =
    let a = c.args in
    let l = c.loop-x in
    λ x y h k. (bars_all a.reach.now a.denied.now l.x _ (omega arith) l.invariant.2 x y h k, bars_all a.reach.now a.denied.now l.x _ (omega arith) l.invariant.3 x y h k)
