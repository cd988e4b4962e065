-- What is left comes out as the whole, and the reachability alone changes.
use Rattle.std.proofs.Common.{◌≡◌, Bool, cond, length, rules, ◌+◌, refl, sym, ap, ◌∙◌, subst, arith}
use Rattle.logic.specs.Facts.{reach_each}
use Rattle.facts.specs.Path.{path_of}
use Rattle.facts.specs.declared.Facts.{Facts}
use Rattle.link_query.specs.Said.{reach_in}
use Rattle.link_query.proofs.Said.{reachability-said}
use Rattle.plain_literals.specs.Taken.{path_by}
use Rattle.plain_literals.proofs.Taken.{read_bounded, reach_negated, reach-plain, kept_more, kept_bounded}
use Rattle.plain_literals.proofs.Each.{reaches, Left, each_begin, each_next, each_end}
use Rattle.plain_literals.proofs.Read.{reach_terms, linked_rows, linked_in}
use Rattle.plain_literals.proofs.reach_each.Goals as goal
use Rattle.plain_literals.proofs.reach_each.Goals.{then-reach_sign, else-reach_sign}

pub loop-i-init : goal.loop-i-init
loop-i-init c = (search rules, refl, λ single h. each_begin reaches _ _ _ (reachability-said c.args.layout c.args.query.now c.requires.0) _)

pub add-requires : goal.add-requires
add-requires c =
    let p = c.requires in
    let l = c.loop-i in
    let s = path_of l.facts in
    let bounded = kept_bounded _ _ l.invariant.1 p.2 in
    let by = linked_rows p.0 p.1 l.i c.loop-i-test.true _ c.reach_link-by.ensures in
    let t = reach_terms p.0 p.1 l.i c.loop-i-test.true in (
      omega (arith, by),
      omega (arith, by),
      read_bounded s bounded _ _ t.left_within (c.representative-a.ensures ∙ ap s.rep c.reach_left.ensures),
      read_bounded s bounded _ _ t.right_within (c.representative-b.ensures ∙ ap s.rep c.reach_right.ensures),
      l.invariant.0,
    )

pub loop-i-preserved : goal.loop-i-preserved
unfolding path_of
loop-i-preserved c =
    let p = c.requires in
    let l = c.loop-i in
    let layout = c.args.layout in
    let literal = reach_in layout.links c.args.query.now layout.reach_at l.i in
    let next = λ (single : Bool) (h : cond single 1 3 ≡ layout.links).
    each_next reaches _ _ _ (reachability-said layout c.args.query.now p.0) _ l.i (path_by single l.facts) c.loop-i-test.true (l.invariant.2 single h) in
    elim c.if-reach_sign.branch [
      | then-reach_sign w ↦
          let rep = (path_of l.facts).rep in
          let left = w.representative-a.ensures ∙ ap rep w.reach_left.ensures in
          let right = w.representative-b.ensures ∙ ap rep w.reach_right.ensures in (
            ap (λ (x : Facts). length x.reach) w.facts-is ∙ w.add.ensures.1,
            kept_more c.args.facts.now l.facts c.if-reach_sign.facts _ l.invariant.1 w.facts-is,
            λ single h. subst (Left reach_each _ _ _ _ (l.i + 1))
                (sym (ap (path_by single) w.facts-is ∙ reach-plain (record l.facts { single = single }) literal _ _ left right (sym c.reach_sign.ensures ∙ w.if-reach_sign.true) _
                w.reach_link-by.ensures (linked_in p.0 p.1 l.i c.loop-i-test.true _ w.reach_link-by.ensures _ h) _ w.add.ensures.0)) (next single h),
          )
      | else-reach_sign w ↦ (
        ap (λ (x : Facts). length x.reach) w.facts-is ∙ l.invariant.0,
        rw w.facts-is l.invariant.1,
        λ single h. subst (Left reach_each _ _ _ _ (l.i + 1))
            (sym (ap (path_by single) w.facts-is ∙ reach_negated literal (sym c.reach_sign.ensures ∙ w.if-reach_sign.false) (path_by single l.facts)))
            (next single h),
      )
    ]

pub returns-clause-added : goal.returns-clause-added
returns-clause-added c =
    λ single h. sym (each_end reaches _ _ _ (reachability-said c.args.layout c.args.query.now c.requires.0) _ _ _ c.loop-i-test.false (c.loop-i.invariant.2 single h))
