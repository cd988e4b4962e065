-- What is marked, and what the literals from i on give, is what all give.
use Rattle.std.proofs.Common.{Bool, length, refl, sym, ap, ◌∙◌, arith}
use mathlib.Core.Bool.{beq}
use Rattle.facts.specs.Path.{rep_of, path_of}
use Rattle.query.proofs.Literals.{literals_are}
use Rattle.units.proofs.Marks.{telling_none, telling_all, field_given, other_given}
use Rattle.units.proofs.fields.Goals as goal
use Rattle.units.proofs.fields.Goals.{then-sign-plain, else-sign-plain}

pub loop-i-init : goal.loop-i-init
loop-i-init c = (refl, telling_none _ _ _ 17)

pub loop-i-preserved : goal.loop-i-preserved
unfolding path_of
loop-i-preserved c =
    let l = c.loop-i in
    let a = c.args in
    let rep = rep_of a.s.now.rep in
    let sign = ap (λ (s : Bool). beq s a.plain) (sym c.sign.ensures) in
    elim c.if-sign-plain.branch [
      | then-sign-plain w ↦ (
        ap length w.out-is ∙ w.mark.ensures.1,
        field_given rep _ _ _ (omega arith) _ _ a.plain (sign ∙ w.if-sign-plain.true) _ _ (w.representative-a.ensures ∙ ap rep w.right.ensures)
            w.field.ensures _ (_, w.alone.ensures, w.mark.ensures.0) w.out-is l.invariant.1,
      )
      | else-sign-plain w ↦ (
        ap length w.out-is ∙ l.invariant.0,
        other_given rep _ _ _ (omega arith) _ _ a.plain (sign ∙ w.if-sign-plain.false) w.out-is l.invariant.1,
      )
    ]

pub returns : goal.returns
returns c = telling_all _ _ _ _ _ _ (omega arith) (literals_are _ _ _ c.requires) c.loop-i.invariant.1
