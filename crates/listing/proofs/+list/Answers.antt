-- The branch walk with its lines: one look, and then each branch in order, with a step less left to it.
use Rattle.std.proofs.Common.{◌≡◌, ◌≤◌, ◌<◌, ℕ, arith, refl, sym, ap, ◌∙◌, subst, lt_of_le_of_lt, le_trans}
use Rattle.std.specs.Prelude.{Option, Some, None, IfSome}
use Rattle.std.proofs.Math.Dec.{lit<}
use Rattle.logic.specs.Rules.{triple, move}
use Rattle.logic.specs.Walk.{look, walk, walk_branch, order_of}
use Rattle.theory.proofs.Walks.OurWalk.{look-some}
use Rattle.facts.specs.Path.{path_of}
use Rattle.facts.proofs.Path.{link_few}
use Rattle.joins.specs.Pairs.{joined_of}
use Rattle.link_query.specs.Said.{said}
use Rattle.link_query.proofs.Said.{terms-said}
use Rattle.alternatives.specs.Alternatives.{alternative_at}
use Rattle.rules.specs.Answers.{kind_of}
use Rattle.walk.specs.declared.Seen.TheVariants as seen
use Rattle.walk.proofs.Lines.{counted_bound}
use Rattle.walk.proofs.Steps.{look_is, clash_fits, move_fits, move_linked, branch_fewer, headed_bound}
use Rattle.listing.specs.Lists.{Lists}
use Rattle.listing.proofs.Listing.{put_line-length, made_fits, going_first, going_next, going_stop, going_last, lists_clash, lists_saturated, lists_after, lists_early}
use Rattle.listing.proofs.+list.Goals as goal

pub returns-then-most-count : goal.returns-then-most-count
returns-then-most-count t c =
    let a = c.args in
    let p = c.requires in
    let q = said a.layout a.query.now in
    let g = order_of a.order.now in
    let s = path_of a.goal.now.facts in
    let u = c.put_joins-count in
    lists_early (walk q g a.left) (joined_of a.goal.now) a.lines.now u.new.lines a.first u.result a.most u.ensures.value u.ensures.lines_after c.if-most-count.true

pub put_line-requires : goal.put_line-requires
put_line-requires t c =
    let a = c.args in
    let p = c.requires in
    let q = said a.layout a.query.now in
    let g = order_of a.order.now in
    let s = path_of a.goal.now.facts in
    let u = c.put_joins-count in
    let mc = c.in-Clashing.clash in
    let hc = look_is c.look.result (seen.Clashing mc) (look q g s) c.look.ensures c.in-Clashing.is in
    let f = clash_fits a.query.now a.layout p.0 g s mc.section mc.place mc.partner hc in
    (headed_bound a.first u.result _ u.ensures.value p.2, lit< tt, f.0, f.1, f.2)

pub number-requires : goal.number-requires
number-requires t c =
    let a = c.args in
    let p = c.requires in
    let q = said a.layout a.query.now in
    let g = order_of a.order.now in
    let s = path_of a.goal.now.facts in
    let m = c.in-Applying.m in
    let h = look_is c.look.result (seen.Applying m) (look q g s) c.look.ensures c.in-Applying.is in
    let l = move_linked q g s m.link.0 (kind_of m.rule) m.x.0 m.y.0 m.z.0 h in
    (l.0, link_few a.goal.now.facts m.link.0 l)

pub put_line-requires-in-Applying : goal.put_line-requires-in-Applying
put_line-requires-in-Applying t c =
    let a = c.args in
    let p = c.requires in
    let q = said a.layout a.query.now in
    let g = order_of a.order.now in
    let s = path_of a.goal.now.facts in
    let u = c.put_joins-count in
    let m = c.in-Applying.m in
    let h = look_is c.look.result (seen.Applying m) (look q g s) c.look.ensures c.in-Applying.is in
    let f = move_fits a.query.now a.layout p.0 g s m.link.0 (kind_of m.rule) m.x.0 m.y.0 m.z.0 h in (
      headed_bound a.first u.result _ u.ensures.value p.2,
      c.number.ensures.1,
      lt_of_le_of_lt f.0 (lit< tt),
      lt_of_le_of_lt f.1 (lit< tt),
      lt_of_le_of_lt f.2 (lit< tt),
    )

pub loop-i-init : goal.loop-i-init
loop-i-init t c =
    let a = c.args in
    let p = c.requires in
    let q = said a.layout a.query.now in
    let g = order_of a.order.now in
    let s = path_of a.goal.now.facts in
    let u = c.put_joins-count in
    let m = c.in-Applying.m in (
      going_first q g a.left s m.link.0 (kind_of m.rule) m.x.0 m.y.0 m.z.0 c.put_line-in-Applying.new.lines c.counted-written.result,
      subst (λ (j : ℕ). j ≤ 16001) (sym c.counted-written.ensures) (counted_bound u.result (headed_bound a.first u.result _ u.ensures.value p.2)),
      refl,
    )

pub make-requires : goal.make-requires
make-requires t c =
    let a = c.args in
    let p = c.requires in
    let q = said a.layout a.query.now in
    let g = order_of a.order.now in
    let s = path_of a.goal.now.facts in
    let m = c.in-Applying.m in
    let h = look_is c.look.result (seen.Applying m) (look q g s) c.look.ensures c.in-Applying.is in
    let f = move_fits a.query.now a.layout p.0 g s m.link.0 (kind_of m.rule) m.x.0 m.y.0 m.z.0 h in
    let l = move_linked q g s m.link.0 (kind_of m.rule) m.x.0 m.y.0 m.z.0 h in
    (p.0.terms_within, l, f)

pub overflow_sub-left : goal.overflow_sub-left
overflow_sub-left t c =
    let a = c.args in
    let p = c.requires in
    let q = said a.layout a.query.now in
    let g = order_of a.order.now in
    let s = path_of a.goal.now.facts in
    let m = c.in-Applying.m in
    let h = look_is c.look.result (seen.Applying m) (look q g s) c.look.ensures c.in-Applying.is in
    let some_left = look-some q g a.left s (move m.link.0 (kind_of m.rule) (triple m.x.0 m.y.0 m.z.0)) p.3 h in
    some_left

pub list-requires : goal.list-requires
list-requires t c =
    let a = c.args in
    let p = c.requires in
    let q = said a.layout a.query.now in
    let g = order_of a.order.now in
    let s = path_of a.goal.now.facts in
    let m = c.in-Applying.m in
    let h = look_is c.look.result (seen.Applying m) (look q g s) c.look.ensures c.in-Applying.is in
    let some_left = look-some q g a.left s (move m.link.0 (kind_of m.rule) (triple m.x.0 m.y.0 m.z.0)) p.3 h in
    let o = c.loop-i in
    let here = subst (λ (j : ℕ). o.i < j) c.count-i-end.ensures c.loop-i-test.true in
    let b = c.make in
    let j = joined_of b.new.goal in (
      omega (arith, some_left),
      (
        p.0,
        made_fits a.layout.terms s (alternative_at m.link.0 a.layout.terms (s.graph m.link.0) (kind_of m.rule) m.x.0 m.y.0 m.z.0 o.i) j b.ensures
            p.0.terms_within,
        o.invariant.1,
        branch_fewer q g a.left a.layout.terms s m.link.0 (kind_of m.rule) m.x.0 m.y.0 m.z.0 h some_left
            (sym (terms-said a.layout a.query.now p.0)) p.3 j o.i here b.ensures,
      ),
    )

pub returns-in_err-written-in-Applying : goal.returns-in_err-written-in-Applying
returns-in_err-written-in-Applying t c =
    let a = c.args in
    let p = c.requires in
    let q = said a.layout a.query.now in
    let g = order_of a.order.now in
    let s = path_of a.goal.now.facts in
    let u = c.put_joins-count in
    let m = c.in-Applying.m in
    let h = look_is c.look.result (seen.Applying m) (look q g s) c.look.ensures c.in-Applying.is in
    let some_left = look-some q g a.left s (move m.link.0 (kind_of m.rule) (triple m.x.0 m.y.0 m.z.0)) p.3 h in
    let o = c.loop-i in
    let here = subst (λ (j : ℕ). o.i < j) c.count-i-end.ensures c.loop-i-test.true in
    let b = c.make in
    let j = joined_of b.new.goal in
    let w = c.list in
    subst (λ (r : Option ℕ). Lists r (walk_branch (walk q g a.left) (joined_of a.goal.now)) a.lines.now a.first a.most w.new.lines) (sym c.from_residual.ensures)
    (lists_after (walk q g a.left) (joined_of a.goal.now) a.lines.now u.new.lines a.first u.result a.most u.ensures.value
    u.ensures.lines_after None w.new.lines
    (going_stop q g a.left s m.link.0 (kind_of m.rule) m.x.0 m.y.0 m.z.0 a.layout.terms (sym (terms-said a.layout a.query.now p.0))
    c.put_line-in-Applying.new.lines c.counted-written.result o.i o.lines w.new.lines o.written a.most here j b.ensures w.result w.ensures h some_left
    u.new.lines u.result c.counted-written.ensures (o.invariant.2 ∙ put_line-length _ _ _ _ c.put_line-in-Applying.ensures) o.invariant.0
    c.in_err-written-in-Applying.was))

pub loop-i-preserved : goal.loop-i-preserved
loop-i-preserved t c =
    let a = c.args in
    let p = c.requires in
    let q = said a.layout a.query.now in
    let g = order_of a.order.now in
    let s = path_of a.goal.now.facts in
    let m = c.in-Applying.m in
    let o = c.loop-i in
    let here = subst (λ (j : ℕ). o.i < j) c.count-i-end.ensures c.loop-i-test.true in
    let b = c.make in
    let j = joined_of b.new.goal in
    let w = c.list in (
      going_next q g a.left s m.link.0 (kind_of m.rule) m.x.0 m.y.0 m.z.0 a.layout.terms (sym (terms-said a.layout a.query.now p.0))
          c.put_line-in-Applying.new.lines c.counted-written.result o.i o.lines w.new.lines o.written a.most here j b.ensures w.result w.ensures _
          o.invariant.0 c.in_ok-written-in-Applying.was,
      subst (λ (r : Option ℕ). IfSome r (λ n. n ≤ 16001)) c.in_ok-written-in-Applying.was w.ensures.bounded,
      w.ensures.same_length ∙ o.invariant.2,
    )

pub returns-in-Saturated : goal.returns-in-Saturated
returns-in-Saturated t c =
    let a = c.args in
    let p = c.requires in
    let q = said a.layout a.query.now in
    let g = order_of a.order.now in
    let s = path_of a.goal.now.facts in
    let u = c.put_joins-count in
    let h = look_is c.look.result seen.Saturated (look q g s) c.look.ensures c.in-Saturated.is in
    lists_after (walk q g a.left) (joined_of a.goal.now) a.lines.now u.new.lines a.first u.result a.most u.ensures.value u.ensures.lines_after None
    u.new.lines (lists_saturated q g a.left s u.new.lines u.result a.most u.new.lines h refl)

pub returns-in-Clashing : goal.returns-in-Clashing
returns-in-Clashing t c =
    let a = c.args in
    let p = c.requires in
    let q = said a.layout a.query.now in
    let g = order_of a.order.now in
    let s = path_of a.goal.now.facts in
    let u = c.put_joins-count in
    let mc = c.in-Clashing.clash in
    let hc = look_is c.look.result (seen.Clashing mc) (look q g s) c.look.ensures c.in-Clashing.is in
    lists_after (walk q g a.left) (joined_of a.goal.now) a.lines.now u.new.lines a.first u.result a.most u.ensures.value u.ensures.lines_after _
    c.put_line.new.lines
    (lists_clash q g a.left s u.new.lines u.result a.most c.put_line.new.lines _ _ hc (headed_bound a.first u.result _ u.ensures.value p.2)
    c.counted.ensures c.put_line.ensures)

pub returns-after-loop-i : goal.returns-after-loop-i
returns-after-loop-i t c =
    let a = c.args in
    let p = c.requires in
    let q = said a.layout a.query.now in
    let g = order_of a.order.now in
    let s = path_of a.goal.now.facts in
    let u = c.put_joins-count in
    let m = c.in-Applying.m in
    let h = look_is c.look.result (seen.Applying m) (look q g s) c.look.ensures c.in-Applying.is in
    let some_left = look-some q g a.left s (move m.link.0 (kind_of m.rule) (triple m.x.0 m.y.0 m.z.0)) p.3 h in
    let o = c.loop-i in
    lists_after (walk q g a.left) (joined_of a.goal.now) a.lines.now u.new.lines a.first u.result a.most u.ensures.value u.ensures.lines_after _ o.lines
    (going_last q g a.left s m.link.0 (kind_of m.rule) m.x.0 m.y.0 m.z.0 h some_left c.put_line-in-Applying.new.lines c.counted-written.result o.i
    o.lines o.written a.most o.invariant.0 (subst (λ (j : ℕ). j ≤ o.i) c.count-i-end.ensures (omega arith)) u.new.lines u.result _
    c.number.ensures.0 c.put_line-in-Applying.ensures c.counted-written.ensures
    (o.invariant.2 ∙ put_line-length _ _ _ _ c.put_line-in-Applying.ensures) o.invariant.1)
