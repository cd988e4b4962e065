-- Our walk ends where the rest of it does; it goes on into the first branch with a heap.
use Rattle.std.proofs.Common.{refl, sym}
use Rattle.logic.specs.Walk.{order_of}
use Rattle.link_query.specs.Said.{said}
use Rattle.link_query.proofs.Said.{terms-said}
use Rattle.facts.specs.Path.{path_of}
use Rattle.rules.specs.Answers.{kind_of}
use Rattle.theory.proofs.Calls.Decision.{reachable_known}
use Rattle.walk.proofs.Walks.{walk-saturated}
use Rattle.walk.proofs.Steps.{less_left}
use Rattle.plain_steps.proofs.Turns.{some_left}
use Rattle.open_path.proofs.First.{never_clashes, comes_on}
use Rattle.open_path.proofs.descend.Goals as goal

pub returns-in-Saturated-clause-value : goal.returns-in-Saturated-clause-value
returns-in-Saturated-clause-value c =
    let a = c.args in
    let o = c.loop-m in
    let s = path_of o.descent.path in
    o.invariant.0.ends s (walk-saturated (said a.layout a.query.now) (order_of a.order.now) o.steps s (sym c.in-Saturated.ensures))

pub returns-in-Clashing-clause-value : goal.returns-in-Clashing-clause-value
returns-in-Clashing-clause-value c =
    let a = c.args in
    let o = c.loop-m in
    absurd (never_clashes {q = said a.layout a.query.now} a.order.now c.requires.1 (path_of o.descent.path) o.invariant.0.reach o.invariant.0.has_heap _ (sym c.in-Clashing.ensures))

pub overflow_sub-steps : goal.overflow_sub-steps
overflow_sub-steps c =
    let a = c.args in
    let p = c.requires in
    let o = c.loop-m in
    let q = said a.layout a.query.now in
    let s = path_of o.descent.path in
    let m = c.in-Applying.m in
    some_left {q = q} a.order.now p.1 p.2 o.steps s (reachable_known q p.1 s o.invariant.0.reach) o.invariant.0.most a.layout.terms
    (sym (terms-said a.layout a.query.now p.0)) m.link.0 (kind_of m.rule) m.x.0 m.y.0 m.z.0 (sym c.in-Applying.ensures)

pub loop-m-smaller : goal.loop-m-smaller
loop-m-smaller c =
    let a = c.args in
    let p = c.requires in
    let o = c.loop-m in
    let q = said a.layout a.query.now in
    let s = path_of o.descent.path in
    let m = c.in-Applying.m in
    less_left o.steps o.steps
    (some_left {q = q} a.order.now p.1 p.2 o.steps s (reachable_known q p.1 s o.invariant.0.reach) o.invariant.0.most a.layout.terms
    (sym (terms-said a.layout a.query.now p.0)) m.link.0 (kind_of m.rule) m.x.0 m.y.0 m.z.0 (sym c.in-Applying.ensures)) refl

pub loop-m-preserved : goal.loop-m-preserved
loop-m-preserved c =
    let a = c.args in
    let p = c.requires in
    let o = c.loop-m in
    let q = said a.layout a.query.now in
    let s = path_of o.descent.path in
    let m = c.in-Applying.m in
    let e = c.enter.ensures in (
      comes_on {q = q} a.order.now p.1 o.steps s o.invariant.0.reach o.invariant.0.most a.layout.terms
          (sym (terms-said a.layout a.query.now p.0)) m.link.0 (kind_of m.rule) m.x.0 m.y.0 m.z.0 (sym c.in-Applying.ensures)
          (path_of c.enter.new.descent.path) e.0 p.2 a.left (path_of a.descent.now.path) o.invariant.0,
      e.1,
    )
