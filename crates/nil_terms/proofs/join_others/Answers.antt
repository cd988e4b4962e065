-- What is left comes out as the whole.
use Rattle.std.proofs.Common.{◌+◌, ◌≤◌, refl, sym, ap, ◌∙◌, subst, arith}
use Rattle.joins.specs.Pairs.{joined_of, Fits}
use Rattle.joins.proofs.Joins.{fits_left}
use Rattle.link_query.specs.Said.{said}
use Rattle.nil_terms.specs.Nil.{nil_from}
use Rattle.nil_terms.proofs.Nil.{others, others_step, others_passed, others-done}
use Rattle.nil_terms.proofs.join_others.Goals as goal
use Rattle.nil_terms.proofs.join_others.Goals.{then-names_nil, else-names_nil}

pub loop-u-init : goal.loop-u-init
loop-u-init c = (c.requires.within.2, refl)

pub join_terms-requires : goal.join_terms-requires
join_terms-requires c =
    let p = c.requires.within in
    let l = c.loop-u in
    let few = p.0.terms_within in
    let below : l.u ≤ c.args.layout.terms = omega arith in (
      few,
      record { left_within = omega (arith, few, p.1); right_within = omega (arith, few, below) },
      l.invariant.0,
      fits_left _ _ (subst Fits (others_step _ _ _ _ _ _ l.invariant.1 below (sym c.names_nil.ensures ∙ c.if-names_nil.true)) c.requires.fits),
    )

pub loop-u-preserved : goal.loop-u-preserved
loop-u-preserved c =
    let l = c.loop-u in
    let n = c.args.layout.terms in
    let below : l.u ≤ n = omega arith in
    let nils = nil_from (said c.args.layout c.args.query.now).entries n (l.u + 1) in
    elim c.if-names_nil.branch [
      | then-names_nil w ↦ (
        rw w.joined-is w.join_terms.ensures.bounded,
        others_step _ _ _ _ _ _ l.invariant.1 below (sym c.names_nil.ensures ∙ w.if-names_nil.true)
            ∙ ap (others n c.args.first.0 nils) (sym w.join_terms.ensures.result_after ∙ sym (ap joined_of w.joined-is)),
      )
      | else-names_nil w ↦ (
        rw w.joined-is l.invariant.0,
        others_passed _ _ _ _ _ _ l.invariant.1 below (sym c.names_nil.ensures ∙ w.if-names_nil.false)
            ∙ ap (others n c.args.first.0 nils) (sym (ap joined_of w.joined-is)),
      )
    ]

pub returns-clause-result_after : goal.returns-clause-result_after
returns-clause-result_after c = sym (others-done _ _ _ _ _ _ c.loop-u.invariant.1 (omega arith))
