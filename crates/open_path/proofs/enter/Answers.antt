-- Branches without a heap are passed; the last one left has one.
use Rattle.std.proofs.Common.{ℕ, ◌+◌, ◌-◌, ◌<◌, ◌≤◌, ◌≡◌, arith, refl, sym, ap, subst}
use Rattle.logic.specs.Rules.{triple, move}
use Rattle.logic.specs.Decision.{Struck}
use Rattle.facts.specs.Path.{path_of}
use Rattle.rules.specs.Answers.{kind_of}
use Rattle.link_query.specs.Said.{said}
use Rattle.link_query.proofs.Said.{terms-said}
use Rattle.walk.proofs.Steps.{move_fits, move_linked}
use Rattle.plain_steps.proofs.Branches.{same_linked}
use Rattle.plain_steps.proofs.Turns.{some_left}
use Rattle.theory.proofs.Calls.Decision.{reachable_known}
use Rattle.open_path.proofs.First.{branch_from, open_reach, open_fewer, open_struck, open_here, open_covered, open_last, some-branch}
use Rattle.open_path.proofs.enter.Goals as goal

pub overflow_sub-end : goal.overflow_sub-end
overflow_sub-end c =
    let p = c.requires in
    subst (λ (j : ℕ). 0 < j) (sym c.count-end.ensures) (some-branch c.args.order.now p.1 _ _ p.3 p.4 _ (sym (terms-said _ _ p.0)) _ _ _ _ _ p.7 p.5)

pub branch-path-requires : goal.branch-path-requires
branch-path-requires c =
    let p = c.requires in
    let f = move_fits _ _ p.0 _ _ _ _ _ _ _ p.7 in
    (p.0.terms_within, same_linked _ _ (ap path_of c.loop-i.invariant.1) _ (move_linked _ _ _ _ _ _ _ _ p.7), f)

pub branch-descent-requires : goal.branch-descent-requires
branch-descent-requires c =
    let p = c.requires in
    let f = move_fits _ _ p.0 _ _ _ _ _ _ _ p.7 in
    (p.0.terms_within, same_linked _ _ (ap path_of c.loop-i.invariant.1) _ (move_linked _ _ _ _ _ _ _ _ p.7), f)

pub overflow_sub-left : goal.overflow_sub-left
overflow_sub-left c =
    let p = c.requires in
    some_left c.args.order.now p.1 p.2 _ _ (reachable_known _ p.1 _ p.3) p.4 _ (sym (terms-said _ _ p.0)) _ _ _ _ _ p.7

pub returns-then-covers : goal.returns-then-covers
returns-then-covers c =
    let p = c.requires in
    let o = c.loop-i in
    let m = c.args.m in
    let made = branch_from _ _ _ o.invariant.1 c.args.layout.terms m.link.0 (kind_of m.rule) m.x.0 m.y.0 m.z.0 o.i c.branch-path.ensures in (
      open_covered c.args.order.now p.1 _ _ p.3 p.4 _ (sym (terms-said _ _ p.0)) _ _ _ _ _ p.7 _
          (subst (λ (j : ℕ). o.i < j) c.count-end.ensures (omega arith)) _ made o.invariant.0 _ o.invariant.2 (c.covers.ensures c.if-covers.true),
      o.invariant.2,
    )

pub has_heap-found-requires : goal.has_heap-found-requires
has_heap-found-requires c =
    let p = c.requires in
    let o = c.loop-i in
    let m = c.args.m in
    let made = branch_from _ _ _ o.invariant.1 c.args.layout.terms m.link.0 (kind_of m.rule) m.x.0 m.y.0 m.z.0 o.i c.branch-path.ensures in
    let here = subst (λ (j : ℕ). o.i < j) c.count-end.ensures (omega arith) in (
      p.0,
      p.1,
      p.2,
      open_reach c.args.order.now p.1 _ _ p.3 p.4 _ (sym (terms-said _ _ p.0)) _ _ _ _ _ p.7 _ here _ made,
      open_fewer c.args.order.now p.1 _ _ p.3 p.4 _ (sym (terms-said _ _ p.0)) _ _ _ _ _ p.7 _ here _ made,
    )

pub returns-in-Some : goal.returns-in-Some
returns-in-Some c =
    let p = c.requires in
    let o = c.loop-i in
    let m = c.args.m in
    let made = branch_from _ _ _ o.invariant.1 c.args.layout.terms m.link.0 (kind_of m.rule) m.x.0 m.y.0 m.z.0 o.i c.branch-path.ensures in (
      open_here c.args.order.now p.1 _ _ p.3 p.4 _ (sym (terms-said _ _ p.0)) _ _ _ _ _ p.7 _
          (subst (λ (j : ℕ). o.i < j) c.count-end.ensures (omega arith)) _ made o.invariant.0 c.in-Some.ensures.decides,
      c.in-Some.ensures.shows refl,
    )

pub loop-i-preserved : goal.loop-i-preserved
loop-i-preserved c =
    let p = c.requires in
    let o = c.loop-i in
    let m = c.args.m in
    let made = branch_from _ _ _ o.invariant.1 c.args.layout.terms m.link.0 (kind_of m.rule) m.x.0 m.y.0 m.z.0 o.i c.branch-path.ensures in (
      open_struck c.args.order.now p.1 _ _ p.3 p.4 _ (sym (terms-said _ _ p.0)) _ _ _ _ _ p.7 _
          (subst (λ (j : ℕ). o.i < j) c.count-end.ensures (omega arith)) _ made o.invariant.0 c.in_default.ensures,
      o.invariant.1,
      o.invariant.2,
    )

pub returns : goal.returns
returns c =
    let p = c.requires in
    let o = c.loop-i in
    let m = c.args.m in
    let n = c.count-end.result in
    let some = subst (λ (j : ℕ). 0 < j) (sym c.count-end.ensures) (some-branch c.args.order.now p.1 _ _ p.3 p.4 _ (sym (terms-said _ _ p.0)) _ _ _ _ _ p.7 p.5) in
    let is : o.i ≡ n - 1 = omega arith in
    let made = branch_from _ _ _ o.invariant.1 c.args.layout.terms m.link.0 (kind_of m.rule) m.x.0 m.y.0 m.z.0 (n - 1) c.branch-descent.ensures in (
      open_last c.args.order.now p.1 _ _ p.3 p.4 _ (sym (terms-said _ _ p.0)) _ _ _ _ _ p.7 (n - 1)
          (subst (λ (j : ℕ). n - 1 < j) c.count-end.ensures (omega arith)) _ made
          (subst (Struck (said c.args.layout c.args.query.now) (path_of c.args.descent.now.path) (move m.link.0 (kind_of m.rule) (triple m.x.0 m.y.0 m.z.0))) is o.invariant.0)
          (subst (λ (j : ℕ). j ≤ n - 1 + 1) c.count-end.ensures (omega arith)) p.5,
      o.invariant.2,
    )
