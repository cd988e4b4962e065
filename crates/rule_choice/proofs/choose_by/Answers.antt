-- What is left of the order list finds what the whole does.
use Rattle.std.proofs.Common.{arith, refl, sym, ap, ◌∙◌, true≢false}
use Rattle.rules.specs.Answers.{choice_of}
use Rattle.rule_choice.proofs.Nested.{rest_end, rest_here, rest_next}
use Rattle.rule_choice.proofs.Searches.{turned_kept, turned_now}
use Rattle.rule_choice.proofs.choose_by.Goals as goal

pub loop-number-init : goal.loop-number-init
loop-number-init c = (refl, refl, refl, refl, refl, λ e. absurd (true≢false (sym e)))

pub tried-requires : goal.tried-requires
tried-requires c =
    let i = c.loop-number.invariant in (
      rw i.0 c.requires,
      λ e. rw i.3
          (turned_now _ _ _ _ _ i.5 (rw i.3 at c.turned_once-view.ensures.0) c.turned_once-view.ensures.1 (c.looks_back-wanted.ensures ∙ e)),
    )

pub returns-in-Some : goal.returns-in-Some
returns-in-Some c =
    let i = c.loop-number.invariant in
    sym (i.4 ∙ rest_here _ c.args.order.now c.loop-number.number-index _ (omega arith)
    (sym (rw (i.0, i.1, i.2, i.3) at c.tried.ensures) ∙ ap choice_of c.in-Some.is))

pub loop-number-preserved : goal.loop-number-preserved
loop-number-preserved c =
    let i = c.loop-number.invariant in (
      i.0,
      i.1,
      i.2,
      i.3,
      i.4 ∙ rest_next _ c.args.order.now c.loop-number.number-index (omega arith)
          (sym (rw (i.0, i.1, i.2, i.3) at c.tried.ensures) ∙ ap choice_of c.in_default.is),
      turned_kept _ _ _ _ _ i.5 (rw i.3 at c.turned_once-view.ensures.0) c.turned_once-view.ensures.1,
    )

pub returns : goal.returns
returns c = sym (c.loop-number.invariant.4 ∙ rest_end _ c.args.order.now c.loop-number.number-index (omega arith))
