-- What is marked, and what the literals from i on deny, is what all deny.
use Rattle.std.proofs.Common.{not, length, refl, sym, ap, ◌∙◌, arith}
use Rattle.facts.specs.Path.{rep_of, path_of}
use Rattle.link_query.proofs.Said.{reachability-said}
use Rattle.units.proofs.Marks.{telling_none, telling_all, negated_denied, other_denied, plain_denied}
use Rattle.units.proofs.denied.Goals as goal
use Rattle.units.proofs.denied.Goals.{then-not-reach_sign+then-reach_link-k, then-not-reach_sign+else-reach_link-k, else-not-reach_sign}

pub loop-i-init : goal.loop-i-init
loop-i-init c = (refl, telling_none _ _ _ 17)

pub loop-i-preserved : goal.loop-i-preserved
unfolding path_of
loop-i-preserved c =
    let l = c.loop-i in
    let sign = c.reach_sign.ensures in
    let rep = rep_of c.args.s.now.rep in
    elim c.if-not-reach_sign.branch [
      | then-not-reach_sign+then-reach_link-k w ↦
          let negated = sym sign ∙ w.if-not-reach_sign.true in
          let by = sym w.reach_link.ensures ∙ w.if-reach_link-k.true in
          let left = w.representative-a.ensures ∙ ap rep w.reach_left.ensures in
          let right = w.representative-b.ensures ∙ ap rep w.reach_right.ensures in (
            ap length w.out-is ∙ w.mark.ensures.1,
            negated_denied rep _ _ _ (omega arith) _ _ _ negated by _ _ left right _ (_, w.alone.ensures, w.mark.ensures.0) w.out-is l.invariant.1,
          )
      | then-not-reach_sign+else-reach_link-k w ↦ (
        ap length w.out-is ∙ l.invariant.0,
        other_denied rep _ _ _ (omega arith) _ _ _ (λ e. w.if-reach_link-k.false (w.reach_link.ensures ∙ e)) w.out-is l.invariant.1,
      )
      | else-not-reach_sign w ↦ (
        ap length w.out-is ∙ l.invariant.0,
        plain_denied rep _ _ _ (omega arith) _ _ _ (ap not (sym sign ∙ w.if-not-reach_sign.false)) w.out-is l.invariant.1,
      )
    ]

pub returns : goal.returns
returns c = telling_all _ _ _ _ _ _ (omega arith) (reachability-said _ _ c.requires) c.loop-i.invariant.1
