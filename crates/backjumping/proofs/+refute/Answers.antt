-- One law for each return: what is said of the closed path is said of the path.
use Rattle.std.proofs.Common.{ℕ, ◌<◌, ◌≤◌, arith, sym, ap, ◌∙◌, subst}
use Rattle.logic.specs.Query.{term_count}
use Rattle.logic.specs.Rules.{Fact}
use Rattle.facts.specs.Path.{path_of}
use Rattle.rules.specs.Answers.{kind_of}
use Rattle.alternatives.specs.Alternatives.{alternative_at}
use Rattle.link_query.specs.Said.{said}
use Rattle.link_query.proofs.Said.{terms-said}
use Rattle.std.specs.Prelude.{Some}
use Rattle.std.proofs.lemmas.Option.{IfSome_then}
use Rattle.backjumping.proofs.Finding.{fewer_left, applied_linked, finds_carried, excludes_more, finds_saturated, known-branch, open_here}
use Rattle.backjumping.proofs.+refute.Goals as goal

pub take-requires : goal.take-requires
take-requires t c =
    let v = c.in-Applying.ensures in
    (c.requires.0.terms_within, applied_linked _ _ _ _ _ _ _ v.0, (v.1, v.2, v.3))

pub refute-requires : goal.refute-requires
refute-requires t c =
    let a = c.args in
    let p = c.requires in
    let q = said a.layout a.query.now in
    let m = c.in-Applying.m in
    let o = c.loop-at in
    let here = subst (λ (j : ℕ). o.at < j) c.count-at-end.ensures c.loop-at-test.true in (
      fewer_left a.left _ c.if-left-eq0.false c.decreases,
      (
        p.0,
        p.1,
        known-branch {q = q} p.1 (path_of a.s.now) (path_of c.close.new.s) p.2 a.layout.terms (sym (terms-said a.layout a.query.now p.0)) c.close.ensures.0
            m.link.0 (kind_of m.rule) m.x.0 m.y.0 m.z.0 c.in-Applying.ensures.0 o.at here (path_of c.take.new.s) c.take.ensures,
      ),
    )

pub returns-in-Open : goal.returns-in-Open
returns-in-Open t c =
    let a = c.args in
    let p = c.requires in
    let q = said a.layout a.query.now in
    let m = c.in-Applying.m in
    let o = c.loop-at in
    let here = subst (λ (j : ℕ). o.at < j) c.count-at-end.ensures c.loop-at-test.true in (
      open_here {q = q} p.1 (path_of a.s.now) (path_of c.close.new.s) p.2 a.layout.terms (sym (terms-said a.layout a.query.now p.0)) c.close.ensures.0
          m.link.0 (kind_of m.rule) m.x.0 m.y.0 m.z.0 c.in-Applying.ensures.0 o.at here (path_of c.take.new.s) c.take.ensures
          c.in-Open.ensures.0,
      c.in-Open.ensures.1,
    )

pub returns-then-covers : goal.returns-then-covers
returns-then-covers t c = finds_carried _ _ (Some c.in-Refuted.nogood) c.in-Refuted.ensures.0 _ c.carried-then-covers.ensures

pub excluding-requires : goal.excluding-requires
excluding-requires t c =
    let v = c.in-Applying.ensures in
    (c.requires.0.terms_within, applied_linked _ _ _ _ _ _ _ v.0, (v.1, v.2, v.3))

pub loop-at-preserved : goal.loop-at-preserved
loop-at-preserved t c =
    let a = c.args in
    let q = said a.layout a.query.now in
    let m = c.in-Applying.m in
    let g = (path_of c.close.new.s).graph m.link.0 in
    let f : ℕ → Fact = λ i. alternative_at m.link.0 a.layout.terms g (kind_of m.rule) m.x.0 m.y.0 m.z.0 i in
    let grown = c.in-Some.ensures in
    excludes_more q _ _ f _ grown.0 c.loop-at.invariant (grown.1 q c.in-Refuted.ensures.0)

pub of_rule-requires : goal.of_rule-requires
of_rule-requires t c = (c.requires.0.terms_within, applied_linked _ _ _ _ _ _ _ c.in-Applying.ensures.0)

pub returns-in-Saturated : goal.returns-in-Saturated
returns-in-Saturated t c =
    let a = c.args in
    let p = c.requires in
    let v = c.in-Saturated.ensures in
    finds_saturated {q = said a.layout a.query.now} p.1 (path_of a.s.now) (path_of c.close.new.s) p.2 a.layout.terms (sym (terms-said a.layout a.query.now p.0)) c.close.ensures.0 v.0 v.1

pub returns-in-Clashing : goal.returns-in-Clashing
returns-in-Clashing t c = finds_carried _ _ c.of_clash.result c.of_clash.ensures _ c.carried.ensures

pub returns-after-loop-at : goal.returns-after-loop-at
returns-after-loop-at t c =
    let a = c.args in
    let o = c.loop-at in
    let past = subst (λ (j : ℕ). j ≤ o.at) c.count-at-end.ensures c.loop-at-test.false in
    let q = said a.layout a.query.now in
    finds_carried q _ c.of_rule.result (IfSome_then c.of_rule.result c.of_rule.ensures (λ d h. h q (λ i l. o.invariant i (omega (arith, l, past))))) _ c.carried-in-Applying.ensures
