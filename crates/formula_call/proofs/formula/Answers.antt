use Rattle.std.proofs.Common.{ℕ, ◌≤◌, ◌<◌, length, sym, ◌∙◌, subst}
use Rattle.lent.proofs.Writing.{blank_again, blank_long}
use Rattle.formula_call.proofs.FormulaLaws.{formula-order, formula-query, formula-room, formula-text, text-room}
use Rattle.formula_call.proofs.formula.Goals as goal

pub returns-then-not-is_order : goal.returns-then-not-is_order
returns-then-not-is_order c =
    rw (c.refused.ensures, c.at.ensures)
    (formula-order c.args.order.now c.args.query.now c.args.text.now c.args.report.now _ (sym c.is_order.ensures ∙ c.if-not-is_order.true) c.clear.ensures)

pub returns-in-Err : goal.returns-in-Err
returns-in-Err c =
    rw c.refused-in-Err.ensures
    (formula-query c.args.order.now c.args.query.now c.args.text.now c.args.report.now _ _ (sym c.is_order.ensures ∙ c.if-not-is_order.false) c.in-Err.ensures c.clear.ensures)

pub returns-then-report-lt53 : goal.returns-then-report-lt53
returns-then-report-lt53 c =
    rw (c.refused-then-report-lt53.ensures, c.at-then-report-lt53.ensures)
    (formula-room c.args.order.now c.args.query.now c.args.text.now c.args.report.now _ _ (sym c.is_order.ensures ∙ c.if-not-is_order.false) c.in-Ok.ensures
    (subst (λ (n : ℕ). n < 53) (blank_long _ (length c.args.report.now) c.clear.ensures) c.if-report-lt53.true) c.clear.ensures)

pub decide_text-requires : goal.decide_text-requires
decide_text-requires c = (c.in-Ok.ensures.1, blank_again _ (length c.args.report.now) c.clear.ensures)

pub returns : goal.returns
returns c =
    formula-text c.args.order.now c.args.query.now c.args.text.now c.args.report.now _ _ c.decide_text.result
    (sym c.is_order.ensures ∙ c.if-not-is_order.false) c.in-Ok.ensures
    (subst (λ (n : ℕ). 53 ≤ n) (blank_long _ (length c.args.report.now) c.clear.ensures) c.if-report-lt53.false)
    (text-room c.args.order.now c.args.query.now c.args.text.now c.clear.new.buffer c.args.report.now c.decide_text.new.report c.decide_text.result
    (blank_long _ (length c.args.report.now) c.clear.ensures) c.decide_text.ensures)
