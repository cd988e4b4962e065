-- The links are followed from the successor of x, and then from x. Assumes nothing.
use native.Mathlib.Omega.{arith}
use borrow.Author.Rules.{rules}
use borrow.Author.Tests.{not-true, not-false}
use mathlib.Core.Path.{sym, ◌∙◌}
use Rattle.facts.specs.Path.{links_in}
use Rattle.link_steps.proofs.Around.{next_le}
use Rattle.fitting.proofs.Laws.{square_within, round_unreached, round_none, round_other, round_found}
use Rattle.fitting.proofs.is_round.Statement.{statement}
use Rattle.fitting.proofs.is_round.Tie as tie

pub is_round_spec : {M : Type 1} → statement M
is_round_spec =
    tie.close
    (tie.spec
    -- holds-requires
    (λ c κs. search rules)
    -- returns
    (λ c lives.
    let a = c.args in
    sym (round_unreached a.n lives a.link.now a.reach.now a.x.0 a.y.0 _ (sym c.holds.ensures ∙ c.if-not-holds.true)))
    -- returns-2
    (λ c lives.
    let a = c.args in
    sym (round_none a.n lives a.link.now a.reach.now a.x.0 a.y.0 _ c.if-k-eq0.true))
    -- next-requires
    (λ c κs. let l = square_within _ _ _ (sym c.holds.ensures ∙ c.if-not-holds.false) in (c.requires, l))
    -- follow-requires
    (λ c κs.
    let a = c.args in
    let l = next_le a.n (links_in a.link.now) a.x.0 in let e = c.next-first.ensures in let p = c.requires in (p, omega arith))
    -- sub-if3
    (λ c. let d = c.if-k-eq0.false in omega arith)
    -- returns-3
    (λ c lives.
    let a = c.args in
    sym (round_other a.n lives a.link.now a.reach.now a.x.0 a.y.0 _ _ _ c.next-first.ensures c.follow-back.ensures.0
    (λ q. let d = c.if-back-k.true in d (omega (arith, q)))))
    -- follow-requires-2
    (λ c κs. let l = square_within _ _ _ (sym c.holds.ensures ∙ c.if-not-holds.false) in
    (c.requires, l))
    -- returns-4
    (λ c lives.
    let a = c.args in
    round_found a.n lives a.link.now a.reach.now a.x.0 a.y.0 _ _ _ _
    (sym c.holds.ensures ∙ c.if-not-holds.false)
    c.next-first.ensures c.follow-back.ensures.0
    (let d = c.if-k-eq0.false in let e = c.if-back-k.false in omega arith) c.follow-round.ensures.0))
