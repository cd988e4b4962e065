-- After a rows, those have what is opposed to them.
use Rattle.std.proofs.Common.{◌≡◌, length, ap, ◌∙◌, arith}
use Rattle.units.proofs.Marks.{opposed_more, opposed_same, opposed_all}
use Rattle.units.proofs.opposed.Goals as goal
use Rattle.units.proofs.opposed.Goals.{then-own-ne0, else-own-ne0}

pub loop-a-preserved : goal.loop-a-preserved
loop-a-preserved c =
    let l = c.loop-a in
    let a = c.args in
    elim c.if-own-ne0.branch [
      | then-own-ne0 w ↦ (
        ap length w.out-is ∙ w.mark.ensures.1,
        opposed_more _ a.some.now a.other.now l.a _ _ _ _ (omega arith) w.having.ensures w.mark.ensures.0 w.out-is l.invariant.1,
      )
      | else-own-ne0 w ↦ (
        ap length w.out-is ∙ l.invariant.0,
        opposed_same _ a.some.now a.other.now l.a _ _ (omega arith) w.if-own-ne0.false w.out-is l.invariant.1,
      )
    ]

pub returns : goal.returns
returns c = let a = c.args in let all : c.loop-a.a ≡ 17 = omega arith in opposed_all _ a.some.now a.other.now _ (rw all at c.loop-a.invariant.1)
