-- One law for each return: what is said of the closed path is said of the path.
use Rattle.std.proofs.Common.{ℕ, ◌<◌, ◌≤◌, sym, ap, ◌∙◌, subst}
use Rattle.logic.specs.Query.{term_count}
use Rattle.facts.specs.Path.{path_of}
use Rattle.rules.specs.Answers.{kind_of}
use Rattle.link_query.specs.Said.{said}
use Rattle.link_query.proofs.Said.{terms-said}
use Rattle.plain_steps.proofs.Branches.{same_linked}
use Rattle.decide.proofs.Tells.{fewer_left, ends_refuted, ends_as, tells-clash, ends_saturated, known-branch, struck_more, tells-branch, tells_struck, applied_linked}
use Rattle.decide.proofs.+search.Goals as goal

pub returns-in-Saturated : goal.returns-in-Saturated
returns-in-Saturated _ c =
    let a = c.args in
    let p = c.requires in
    let v = c.in-Saturated.ensures in
    ends_saturated {q = said a.layout a.query.now} p.1 (path_of a.s.now) (path_of c.close.new.s) p.2 a.layout.terms (sym (terms-said a.layout a.query.now p.0)) c.close.ensures.0 v.0 v.1

pub returns-in-Clashing : goal.returns-in-Clashing
returns-in-Clashing _ c =
    let a = c.args in
    let p = c.requires in
    let q = said a.layout a.query.now in
    let v = c.in-Clashing.ensures in
    let s = path_of a.s.now in
    let t = path_of c.close.new.s in
    ends_refuted q s t (tells-clash {q = q} p.1 s t p.2 a.layout.terms (sym (terms-said a.layout a.query.now p.0)) c.close.ensures.0 v.0 v.1)

pub take-requires : goal.take-requires
take-requires _ c =
    let a = c.args in
    let m = c.in-Applying.m in
    let v = c.in-Applying.ensures in
    let o = c.loop-at in
    let t = path_of c.close.new.s in (
      c.requires.0.terms_within,
      same_linked (path_of o.s) t (ap path_of o.invariant.1) m.link.0 (applied_linked (term_count (said a.layout a.query.now)) t m.link.0 (kind_of m.rule) m.x.0 m.y.0 m.z.0 v.0),
      (v.1, v.2, v.3),
    )

pub search-kind-requires : goal.search-kind-requires
search-kind-requires _ c =
    let a = c.args in
    let p = c.requires in
    let q = said a.layout a.query.now in
    let m = c.in-Applying.m in
    let o = c.loop-at in
    let here = subst (λ (j : ℕ). o.at < j) c.count-at-end.ensures c.loop-at-test.true in (
      fewer_left a.left _ c.if-left-eq0.false c.decreases,
      (
        p.0,
        p.1,
        known-branch {q = q} p.1 (path_of a.s.now) (path_of c.close.new.s) p.2 a.layout.terms (sym (terms-said a.layout a.query.now p.0)) c.close.ensures.0
            m.link.0 (kind_of m.rule) m.x.0 m.y.0 m.z.0 c.in-Applying.ensures.0 (path_of o.s) (ap path_of o.invariant.1) o.at here
            (path_of c.take.new.s) c.take.ensures,
      ),
    )

pub returns-then-not-is_refuted : goal.returns-then-not-is_refuted
returns-then-not-is_refuted _ c =
    let a = c.args in
    let p = c.requires in
    let q = said a.layout a.query.now in
    let m = c.in-Applying.m in
    let o = c.loop-at in
    let here = subst (λ (j : ℕ). o.at < j) c.count-at-end.ensures c.loop-at-test.true in
    let u = path_of c.take.new.s in
    let s = path_of a.s.now in
    let d = c.search-kind.result in
    ends_as q s (path_of c.search-kind.new.s) u d c.search-kind.ensures
    (tells-branch {q = q} p.1 s (path_of c.close.new.s) p.2 a.layout.terms (sym (terms-said a.layout a.query.now p.0)) c.close.ensures.0
    m.link.0 (kind_of m.rule) m.x.0 m.y.0 m.z.0 c.in-Applying.ensures.0 (path_of o.s) (ap path_of o.invariant.1) o.at here
    u c.take.ensures d c.search-kind.ensures.tells (sym c.is_refuted.ensures ∙ c.if-not-is_refuted.true))

pub loop-at-preserved : goal.loop-at-preserved
loop-at-preserved _ c =
    let a = c.args in
    let p = c.requires in
    let q = said a.layout a.query.now in
    let m = c.in-Applying.m in
    let o = c.loop-at in
    let here = subst (λ (j : ℕ). o.at < j) c.count-at-end.ensures c.loop-at-test.true in (
      struck_more {q = q} p.1 (path_of a.s.now) (path_of c.close.new.s) p.2 a.layout.terms (sym (terms-said a.layout a.query.now p.0)) c.close.ensures.0
          m.link.0 (kind_of m.rule) m.x.0 m.y.0 m.z.0 c.in-Applying.ensures.0 (path_of o.s) (ap path_of o.invariant.1) o.at here
          (path_of c.take.new.s) c.take.ensures o.invariant.0
          c.search-kind.result c.search-kind.ensures.tells (sym c.is_refuted.ensures ∙ c.if-not-is_refuted.false),
      o.invariant.1,
    )

pub returns-after-loop-at : goal.returns-after-loop-at
returns-after-loop-at _ c =
    let a = c.args in
    let p = c.requires in
    let q = said a.layout a.query.now in
    let m = c.in-Applying.m in
    let o = c.loop-at in
    let s = path_of a.s.now in
    ends_refuted q s (path_of o.s)
    (tells_struck {q = q} p.1 s (path_of c.close.new.s) p.2 a.layout.terms (sym (terms-said a.layout a.query.now p.0)) c.close.ensures.0
    m.link.0 (kind_of m.rule) m.x.0 m.y.0 m.z.0 c.in-Applying.ensures.0
    o.at o.invariant.0 (subst (λ (j : ℕ). j ≤ o.at) c.count-at-end.ensures c.loop-at-test.false))
