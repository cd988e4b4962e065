-- One law for each return.
use Rattle.std.proofs.Common.{arith, refl, sym, ap, ◌∙◌}
use Rattle.facts.specs.Path.{graph_of, links_in}
use Rattle.rows.specs.Options.{found_of}
use Rattle.rule_choice.specs.Answers.{place_of}
use Rattle.link_steps.proofs.Around.{next_le, steps_bound, back_links}
use Rattle.rule_choice.proofs.Rounds.{second_unreached, second_open, second_none, second_some, reach-none, round_find}
use Rattle.rule_choice.proofs.cycle.Goals as goal

pub returns-then-far-eq0 : goal.returns-then-far-eq0
returns-then-far-eq0 c =
    let v = c.args.view.now in
    λ alive. sym (second_unreached _ _ _ _ (reach-none _ c.requires.0 v.link v.reach _ c.requires.1 _ c.up_to.ensures c.if-far-eq0.true))

pub follow-back-requires : goal.follow-back-requires
follow-back-requires c =
    let l = next_le c.args.view.now.n (links_in c.args.view.now.link) c.args.x.0 in let e = c.next-first.ensures in (omega arith, omega arith)

pub overflow_add-k : goal.overflow_add-k
overflow_add-k c = let l = steps_bound _ _ _ _ _ _ c.follow-back.ensures.0 in omega arith

pub returns-then-n-k : goal.returns-then-n-k
returns-then-n-k c =
    let v = c.args.view.now in
    let q = back_links v.n v.link v.reach c.args.x.0 _ _ c.next-first.ensures c.follow-back.ensures.0 in
    λ alive. sym (second_open _ alive (graph_of v.link v.reach) _ (omega arith))

pub returns-in_err-y : goal.returns-in_err-y
returns-in_err-y c =
    let v = c.args.view.now in
    let q = back_links v.n v.link v.reach c.args.x.0 _ _ c.next-first.ensures c.follow-back.ensures.0 in
    λ alive. ap place_of c.from_residual.ensures ∙ sym (second_none _ alive (graph_of v.link v.reach) _ _ q (omega arith)
    (sym (round_find v.n c.requires.0 v.link v.reach c.args.x.0 c.requires.1 _ c.up_to.ensures _ _ _ _ _ _
    c.next-first.ensures refl c.follow-back.ensures.2 c.only.ensures c.without.ensures)
    ∙ sym c.first.ensures ∙ ap found_of c.in_err-y.was))

pub returns : goal.returns
returns c =
    let v = c.args.view.now in
    let q = back_links v.n v.link v.reach c.args.x.0 _ _ c.next-first.ensures c.follow-back.ensures.0 in
    λ alive. sym (second_some _ alive (graph_of v.link v.reach) _ _ q (omega arith) _
    (sym (round_find v.n c.requires.0 v.link v.reach c.args.x.0 c.requires.1 _ c.up_to.ensures _ _ _ _ _ _
    c.next-first.ensures refl c.follow-back.ensures.2 c.only.ensures c.without.ensures)
    ∙ sym c.first.ensures ∙ ap found_of c.in_ok-y.was))
