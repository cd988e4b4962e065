-- What is left comes out as the whole.
use Rattle.std.proofs.Common.{◌+◌, refl, sym, ap, ◌∙◌, subst}
use Rattle.logic.specs.Query.{Literal}
use Rattle.logic.specs.Facts.{and_then}
use Rattle.joins.specs.Pairs.{joined_of, Fits}
use Rattle.joins.proofs.Joins.{fits_left}
use Rattle.query.specs.LaysOut.{literal_in}
use Rattle.query.proofs.Literals.{literals_are}
use Rattle.plain_literals.specs.Taken.{join_one, Terms}
use Rattle.plain_literals.proofs.Taken.{join_negated, plain_is}
use Rattle.plain_literals.proofs.Each.{join_behind, joins, Left, each_begin, each_next, each_end}
use Rattle.plain_literals.proofs.join_each.Goals as goal
use Rattle.plain_literals.proofs.join_each.Goals.{then-sign, else-sign}

pub loop-i-init : goal.loop-i-init
loop-i-init c = let p = c.requires.within in (p.3, each_begin (joins _) _ _ _ (literals_are _ _ _ p.1) _)

pub join_terms-requires : goal.join_terms-requires
join_terms-requires c =
    let p = c.requires.within in
    let l = c.loop-i in
    let is = plain_is (literal_in c.args.query.now c.args.at l.i) _ _ refl (sym c.sign.ensures ∙ c.if-sign.true) c.left-left.ensures c.right-right.ensures in
    let step = each_next (joins _) _ _ _ (literals_are _ _ _ p.1) _ l.i (joined_of l.joined) c.loop-i-test.true l.invariant.1 in (
      p.0,
      subst Terms is (p.2.terms _ c.loop-i-test.true),
      l.invariant.0,
      subst (λ (m : Literal). Fits (and_then (joined_of l.joined) (join_one c.args.n m))) is (fits_left _ _ (subst Fits step c.requires.fits)),
    )

pub loop-i-preserved : goal.loop-i-preserved
loop-i-preserved c =
    let n = c.args.n in
    let l = c.loop-i in
    let literal = literal_in c.args.query.now c.args.at l.i in
    let step = each_next (joins _) _ _ _ (literals_are _ _ _ c.requires.within.1) _ l.i (joined_of l.joined) c.loop-i-test.true l.invariant.1 in
    elim c.if-sign.branch [
      | then-sign w ↦
          let is = plain_is literal _ _ refl (sym c.sign.ensures ∙ w.if-sign.true) w.left-left.ensures w.right-right.ensures in (
            rw w.joined-is w.join_terms.ensures.bounded,
            subst (Left (join_behind n) _ _ _ _ (l.i + 1))
                (ap (λ (m : Literal). and_then (joined_of l.joined) (join_one n m)) is ∙ sym w.join_terms.ensures.result_after ∙ sym (ap joined_of w.joined-is)) step,
          )
      | else-sign w ↦ (
        rw w.joined-is l.invariant.0,
        subst (Left (join_behind n) _ _ _ _ (l.i + 1))
            (sym (join_negated literal (sym c.sign.ensures ∙ w.if-sign.false) n (joined_of l.joined)) ∙ sym (ap joined_of w.joined-is)) step,
      )
    ]

pub returns-clause-result_after : goal.returns-clause-result_after
returns-clause-result_after c =
    let l = c.loop-i in sym (each_end (joins _) _ _ _ (literals_are _ _ _ c.requires.within.1) _ _ _ c.loop-i-test.false l.invariant.1)
