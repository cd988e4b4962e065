-- One law for each return: what is said of the path that is looked at is said of the path.
use Rattle.std.proofs.Common.{ℕ, ◌<◌, ◌≤◌, ◌-◌, Bool, is_some, sym, ap, ◌∙◌, subst}
use Rattle.logic.specs.Rules.{move}
use Rattle.logic.specs.Walk.{look, order_of}
use Rattle.facts.specs.Path.{path_of}
use Rattle.rules.specs.Answers.{kind_of}
use Rattle.walk.proofs.Steps.{move_fits, move_linked, less_left}
use Rattle.walk.specs.declared.Seen.TheVariants as seen
use Rattle.link_query.specs.Said.{said}
use Rattle.link_query.proofs.Said.{terms-said}
use Rattle.plain_steps.specs.Walks.{WalksTo}
use Rattle.plain_steps.proofs.Branches.{same_linked}
use Rattle.plain_steps.proofs.Leads.{order_long}
use Rattle.plain_steps.proofs.Fronts.{front_clash, front_saturated, front_left, front_next, front_struck, front_branch, front_all}
use Rattle.plain_steps.proofs.+plain.Goals as goal

pub close_ahead-requires : goal.close_ahead-requires
close_ahead-requires t c = let p = c.requires in (p.0.terms_within, order_long _ p.2)

pub look_ahead-requires : goal.look_ahead-requires
look_ahead-requires t c = let p = c.requires in (p.0, order_long _ p.2, λ b. (c.close_ahead.ensures.0 b).1)

pub returns-in-Saturated-clause-walks : goal.returns-in-Saturated-clause-walks
returns-in-Saturated-clause-walks t c =
    let a = c.args in
    let p = c.requires in
    let q = said a.layout a.query.now in
    front_saturated {q = q} a.order.now p.1 p.2 a.left (path_of a.s.now) (path_of c.close_ahead.new.s) p.3 p.4 a.layout.terms
    (sym (terms-said a.layout a.query.now p.0)) c.close_ahead.ensures (sym c.in-Saturated.ensures) (is_some a.budget.now)

pub returns-in-Clashing-clause-walks : goal.returns-in-Clashing-clause-walks
returns-in-Clashing-clause-walks t c =
    let a = c.args in
    let p = c.requires in
    let q = said a.layout a.query.now in
    let v = path_of c.close_ahead.new.s in
    front_clash {q = q} a.order.now p.1 p.2 a.left (path_of a.s.now) v p.3 p.4 a.layout.terms
    (sym (terms-said a.layout a.query.now p.0)) c.close_ahead.ensures _ (sym c.in-Clashing.ensures) (is_some a.budget.now) v

pub take-requires : goal.take-requires
take-requires t c =
    let a = c.args in
    let p = c.requires in
    let q = said a.layout a.query.now in
    let v = path_of c.close_ahead.new.s in
    let m = c.in-Applying.m in
    let h = sym c.in-Applying.ensures in
    let g = order_of a.order.now in
    let f = move_fits a.query.now a.layout p.0 g v m.link.0 (kind_of m.rule) m.x.0 m.y.0 m.z.0 h in
    let o = c.loop-i in
    (p.0.terms_within, same_linked (path_of o.s) v (ap path_of o.invariant.1) m.link.0 (move_linked q g v m.link.0 (kind_of m.rule) m.x.0 m.y.0 m.z.0 h), f)

pub overflow_sub-left : goal.overflow_sub-left
overflow_sub-left t c =
    let a = c.args in
    let p = c.requires in
    let q = said a.layout a.query.now in
    let m = c.in-Applying.m in
    front_left {q = q} a.order.now p.1 p.2 a.left (path_of a.s.now) (path_of c.close_ahead.new.s) p.3 p.4 a.layout.terms
    (sym (terms-said a.layout a.query.now p.0)) c.close_ahead.ensures m.link.0 (kind_of m.rule) m.x.0 m.y.0 m.z.0 (sym c.in-Applying.ensures)

pub plain-kind-requires : goal.plain-kind-requires
plain-kind-requires t c =
    let a = c.args in
    let p = c.requires in
    let q = said a.layout a.query.now in
    let m = c.in-Applying.m in
    let o = c.loop-i in
    let here = subst (λ (j : ℕ). o.i < j) c.count-i-end.ensures c.loop-i-test.true in
    let g = front_next {q = q} a.order.now p.1 p.2 a.left (path_of a.s.now) (path_of c.close_ahead.new.s) p.3 p.4 a.layout.terms
    (sym (terms-said a.layout a.query.now p.0)) c.close_ahead.ensures m.link.0 (kind_of m.rule) m.x.0 m.y.0 m.z.0 (sym c.in-Applying.ensures)
    (path_of o.s) (ap path_of o.invariant.1) o.i here (path_of c.take.new.s) c.take.ensures in
    (less_left a.left _ g.0 c.decreases, (p.0, p.1, p.2, g.1, g.2))

pub returns-then-not-is_refuted-clause-walks : goal.returns-then-not-is_refuted-clause-walks
returns-then-not-is_refuted-clause-walks t c =
    let a = c.args in
    let p = c.requires in
    let q = said a.layout a.query.now in
    let m = c.in-Applying.m in
    let o = c.loop-i in
    let here = subst (λ (j : ℕ). o.i < j) c.count-i-end.ensures c.loop-i-test.true in
    let u = path_of c.take.new.s in
    let w = c.plain-kind.result in
    let v = path_of c.plain-kind.new.s in
    let told = subst (λ (b : Bool). WalksTo q a.order.now (a.left - 1) u b w v) (o.invariant.2 ∙ c.spend.ensures.limited) c.plain-kind.ensures.walks in
    front_branch {q = q} a.order.now p.1 p.2 a.left (path_of a.s.now) (path_of c.close_ahead.new.s) p.3 p.4 a.layout.terms
    (sym (terms-said a.layout a.query.now p.0)) c.close_ahead.ensures m.link.0 (kind_of m.rule) m.x.0 m.y.0 m.z.0 (sym c.in-Applying.ensures)
    (path_of o.s) (ap path_of o.invariant.1) o.i here u c.take.ensures
    o.invariant.0 (is_some a.budget.now) w v told (sym c.is_refuted.ensures ∙ c.if-not-is_refuted.true)

pub loop-i-preserved : goal.loop-i-preserved
loop-i-preserved t c =
    let a = c.args in
    let p = c.requires in
    let q = said a.layout a.query.now in
    let m = c.in-Applying.m in
    let o = c.loop-i in
    let here = subst (λ (j : ℕ). o.i < j) c.count-i-end.ensures c.loop-i-test.true in
    let u = path_of c.take.new.s in
    let w = c.plain-kind.result in
    let v = path_of c.plain-kind.new.s in
    let told = subst (λ (b : Bool). WalksTo q a.order.now (a.left - 1) u b w v) (o.invariant.2 ∙ c.spend.ensures.limited) c.plain-kind.ensures.walks in (
      front_struck {q = q} a.order.now p.1 p.2 a.left (path_of a.s.now) (path_of c.close_ahead.new.s) p.3 p.4 a.layout.terms
          (sym (terms-said a.layout a.query.now p.0)) c.close_ahead.ensures m.link.0 (kind_of m.rule) m.x.0 m.y.0 m.z.0 (sym c.in-Applying.ensures)
          (path_of o.s) (ap path_of o.invariant.1) o.i here u c.take.ensures
          o.invariant.0 (is_some a.budget.now) w v told (sym c.is_refuted.ensures ∙ c.if-not-is_refuted.false),
      o.invariant.1,
      c.plain-kind.ensures.limited ∙ o.invariant.2,
    )

pub returns-after-loop-i-clause-walks : goal.returns-after-loop-i-clause-walks
returns-after-loop-i-clause-walks t c =
    let a = c.args in
    let p = c.requires in
    let q = said a.layout a.query.now in
    let m = c.in-Applying.m in
    let o = c.loop-i in
    front_all {q = q} a.order.now p.1 p.2 a.left (path_of a.s.now) (path_of c.close_ahead.new.s) p.3 p.4 a.layout.terms
    (sym (terms-said a.layout a.query.now p.0)) c.close_ahead.ensures m.link.0 (kind_of m.rule) m.x.0 m.y.0 m.z.0 (sym c.in-Applying.ensures) o.i o.invariant.0
    (subst (λ (j : ℕ). j ≤ o.i) c.count-i-end.ensures c.loop-i-test.false) (is_some a.budget.now) (path_of o.s)
