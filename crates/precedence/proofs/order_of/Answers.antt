-- The checks in their order, and then the answer in a blank buffer.
use Rattle.std.proofs.Common.{ℕ, ◌≤◌, ◌<◌, length, sym, subst, ◌∙◌}
use Rattle.lent.proofs.Writing.{blank_long}
use Rattle.ordering.specs.Sheet.{pairs}
use Rattle.ordering.specs.Calls.{answered}
use Rattle.precedence.specs.Answers.{DoesAnswer}
use Rattle.precedence.proofs.Answered.{refused_15, refused_16, refused_14, does_answered}
use Rattle.precedence.proofs.order_of.Goals as goal

pub returns-then-not-laid_out : goal.returns-then-not-laid_out
returns-then-not-laid_out c =
    rw c.at.ensures (refused_15 _ _ _ (sym c.laid_out.ensures ∙ c.if-not-laid_out.true) c.clear.ensures)

pub returns-then-not-rules_only : goal.returns-then-not-rules_only
returns-then-not-rules_only c =
    rw c.at-then-not-rules_only.ensures
    (refused_16 _ _ _ (sym c.laid_out.ensures ∙ c.if-not-laid_out.false) (sym c.rules_only.ensures ∙ c.if-not-rules_only.true) c.clear.ensures)

pub returns-then-out-lt8 : goal.returns-then-out-lt8
returns-then-out-lt8 c =
    rw c.at-then-out-lt8.ensures
    (refused_14 _ _ _ (sym c.laid_out.ensures ∙ c.if-not-laid_out.false) (sym c.rules_only.ensures ∙ c.if-not-rules_only.false)
    (subst (λ (n : ℕ). n < 8) (blank_long _ (length c.args.out.now) c.clear.ensures) c.if-out-lt8.true) c.clear.ensures)

pub returns : goal.returns
returns c =
    let out = c.args.out.now in
    does_answered c.args.sheet.now (length out) c.answer.result c.answer.new.out (sym c.laid_out.ensures ∙ c.if-not-laid_out.false)
    (sym c.rules_only.ensures ∙ c.if-not-rules_only.false)
    (subst (λ (n : ℕ). 8 ≤ n) (blank_long _ (length out) c.clear.ensures) c.if-out-lt8.false)
    (subst (λ (n : ℕ). DoesAnswer (answered (pairs c.args.sheet.now) n) c.answer.result c.answer.new.out) (blank_long _ (length out) c.clear.ensures)
    c.answer.ensures)
