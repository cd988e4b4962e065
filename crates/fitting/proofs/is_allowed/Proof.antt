-- One law for each rule. Assumes nothing.
use borrow.Author.Rules.{rules}
use mathlib.Core.Path.{ap}
use Rattle.facts.specs.Path.{graph_of}
use Rattle.rules.specs.Answers.{kind_of}
use Rattle.fitting.proofs.Laws.{reflex_passes, trans1_passes, trans2_passes, func_passes, scc_passes, total_passes, share_passes, cycle_excluded}
use Rattle.fitting.proofs.is_allowed.Statement.{statement}
use Rattle.fitting.proofs.is_allowed.Tie as tie

pub is_allowed_spec : {M : Type 1} → statement M
unfolding graph_of
is_allowed_spec =
    tie.close
    (tie.spec
    -- enum_told
    (λ c. search rules)
    -- holds-requires
    (λ c κs. search rules)
    -- enum-told-2
    (λ c. search rules)
    -- holds-requires-2
    (λ c κs. search rules)
    -- holds-requires-3
    (λ c κs. search rules)
    -- enum-told-3
    (λ c. search rules)
    -- holds-requires-4
    (λ c κs. search rules)
    -- holds-requires-5
    (λ c κs. search rules)
    -- holds-requires-6
    (λ c κs. search rules)
    -- enum-told-4
    (λ c. search rules)
    -- holds-requires-7
    (λ c κs. search rules)
    -- holds-requires-8
    (λ c κs. search rules)
    -- holds-requires-9
    (λ c κs. search rules)
    -- enum-told-5
    (λ c. search rules)
    -- enum-told-6
    (λ c. search rules)
    -- holds-requires-10
    (λ c κs. search rules)
    -- holds-requires-11
    (λ c κs. search rules)
    -- holds-requires-12
    (λ c κs. search rules)
    -- holds-requires-13
    (λ c κs. search rules)
    -- enum-told-7
    (λ c. search rules)
    -- holds-requires-14
    (λ c κs. search rules)
    -- holds-requires-15
    (λ c κs. search rules)
    -- holds-requires-16
    (λ c κs. search rules)
    -- holds-requires-17
    (λ c κs. search rules)
    -- enum-told-8
    (λ c. search rules)
    -- holds-requires-18
    (λ c κs. search rules)
    -- holds-requires-19
    (λ c κs. search rules)
    -- holds-requires-20
    (λ c κs. search rules)
    -- holds-requires-21
    (λ c κs. search rules)
    -- returns
    (λ c lives e l.
    let a = c.args in
    reflex_passes lives (graph_of a.link.now a.reach.now) _ _ _ _ _ _ (ap kind_of c.in-Reflex.is) (e) c.holds.ensures)
    -- returns-2
    (λ c lives e l.
    let a = c.args in
    trans1_passes lives (graph_of a.link.now a.reach.now) _ _ _ _ _ _ (ap kind_of c.in-Trans1.is) c.holds-in-Trans1.ensures
    c.holds-in-Trans1-2.ensures)
    -- returns-3
    (λ c lives e l.
    let a = c.args in
    trans2_passes lives (graph_of a.link.now a.reach.now) _ _ _ _ _ _ _ (ap kind_of c.in-Trans2.is) c.holds-in-Trans2.ensures
    c.holds-in-Trans2-2.ensures c.holds-in-Trans2-3.ensures)
    -- returns-4
    (λ c lives e l.
    let a = c.args in
    func_passes lives (graph_of a.link.now a.reach.now) _ _ _ _ _ _ _ (ap kind_of c.in-Func.is)
    c.holds-in-Func.ensures c.holds-in-Func-2.ensures c.holds-in-Func-3.ensures)
    -- returns-5
    (λ c lives e l. absurd (cycle_excluded _ (ap kind_of c.in-Cycle.is) l))
    -- returns-6
    (λ c lives e l.
    let a = c.args in
    scc_passes lives (graph_of a.link.now a.reach.now) _ _ _ _ _ _ _ _ (ap kind_of c.in-Scc.is)
    c.holds-in-Scc.ensures c.holds-in-Scc-2.ensures c.holds-in-Scc-3.ensures c.holds-in-Scc-4.ensures)
    -- returns-7
    (λ c lives e l.
    let a = c.args in
    total_passes lives (graph_of a.link.now a.reach.now) _ _ _ _ _ _ _ _ (ap kind_of c.in-Total.is) c.holds-in-Total.ensures
    c.holds-in-Total-2.ensures c.holds-in-Total-3.ensures c.holds-in-Total-4.ensures)
    -- returns-8
    (λ c lives e l.
    let a = c.args in
    share_passes lives (graph_of a.link.now a.reach.now) _ _ _ _ _ _ _ _ (ap kind_of c.in-Share.is)
    c.holds-in-Share.ensures c.holds-in-Share-2.ensures c.holds-in-Share-3.ensures c.holds-in-Share-4.ensures))
