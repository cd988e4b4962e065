-- What is left of the order list finds what the whole does.
use Rattle.std.proofs.Common.{arith, refl, sym, ap, ◌∙◌}
use Rattle.rules.specs.Answers.{choice_of}
use Rattle.rule_choice.proofs.Nested.{three_tried, rest_end, rest_here, rest_next}
use Rattle.rule_choice.proofs.choose_any.Goals as goal

pub loop-number-init : goal.loop-number-init
loop-number-init c = refl

pub tried_by-requires : goal.tried_by-requires
tried_by-requires c =
    (rw c.view_by-first.ensures.0 c.requires, rw c.view_by-second.ensures.0 c.requires, rw c.view_by-third.ensures.0 c.requires)

pub returns-in-Some : goal.returns-in-Some
returns-in-Some c =
    let found = c.tried_by.ensures ∙ three_tried _ _ _ _ c.view_by-first.result c.view_by-second.result c.view_by-third.result c.view_by-first.ensures
    c.view_by-second.ensures c.view_by-third.ensures _ in
    sym (c.loop-number.invariant ∙ rest_here _ c.args.order.now c.loop-number.number-index _ (omega arith) (sym found ∙ ap choice_of c.in-Some.is))

pub loop-number-preserved : goal.loop-number-preserved
loop-number-preserved c =
    let found = c.tried_by.ensures ∙ three_tried _ _ _ _ c.view_by-first.result c.view_by-second.result c.view_by-third.result c.view_by-first.ensures
    c.view_by-second.ensures c.view_by-third.ensures _ in
    c.loop-number.invariant ∙ rest_next _ c.args.order.now c.loop-number.number-index (omega arith) (sym found ∙ ap choice_of c.in_default.is)

pub returns : goal.returns
returns c = sym (c.loop-number.invariant ∙ rest_end _ c.args.order.now c.loop-number.number-index (omega arith))
