-- What is marked, and what the literals from i on hold apart, is what all hold apart.
use Rattle.std.proofs.Common.{not, length, refl, sym, ap, ◌∙◌, arith}
use Rattle.facts.specs.Path.{rep_of, path_of}
use Rattle.query.proofs.Literals.{literals_are}
use Rattle.units.proofs.Marks.{telling_none, telling_all, negated_apart, plain_apart}
use Rattle.units.proofs.unequal.Goals as goal
use Rattle.units.proofs.unequal.Goals.{then-not-sign, else-not-sign}

pub loop-i-init : goal.loop-i-init
loop-i-init c = (refl, telling_none _ _ _ 17)

pub loop-i-preserved : goal.loop-i-preserved
unfolding path_of
loop-i-preserved c =
    let l = c.loop-i in
    let rep = rep_of c.args.s.now.rep in
    elim c.if-not-sign.branch [
      | then-not-sign w ↦
          let negated = sym c.sign.ensures ∙ w.if-not-sign.true in
          let left = w.representative-a.ensures ∙ ap rep w.left.ensures in
          let right = w.representative-b.ensures ∙ ap rep w.right.ensures in (
            ap length w.out-is ∙ w.mark-then-not-sign.ensures.1,
            negated_apart rep _ _ _ (omega arith) _ _ negated _ _ left right _ _ (_, w.alone.ensures, w.mark.ensures.0)
                (_, w.alone-then-not-sign.ensures, w.mark-then-not-sign.ensures.0) w.out-is l.invariant.1,
          )
      | else-not-sign w ↦ (
        ap length w.out-is ∙ l.invariant.0,
        plain_apart rep _ _ _ (omega arith) _ _ (ap not (sym c.sign.ensures ∙ w.if-not-sign.false)) w.out-is l.invariant.1,
      )
    ]

pub returns : goal.returns
returns c = telling_all _ _ _ _ _ _ (omega arith) (literals_are _ _ _ c.requires) c.loop-i.invariant.1
