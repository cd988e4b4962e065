-- The lowest successor, and the lowest of the rest.
use Rattle.std.proofs.Common.{rules, sym, ap, ◌∙◌, arith}
use Rattle.logic.specs.Facts.{successors}
use Rattle.facts.specs.Path.{links_by}
use Rattle.rows.proofs.Successors.{two_none, two_one, two_both, lowest_term, next_term, found_positive}
use Rattle.doubled.specs.Answers.{two_of}
use Rattle.doubled.proofs.first_two.Goals as goal

pub returns-in_err-a : goal.returns-in_err-a
unfolding successors links_by
returns-in_err-a c = ap two_of c.from_residual.ensures ∙ sym (two_none _ _ (sym (lowest_term _ _ (omega arith) _ c.successor_row-row.ensures) ∙ sym c.in_err-a.ensures))

pub overflow_sub-row : goal.overflow_sub-row
overflow_sub-row c = found_positive _ _ (omega arith) c.successor_row-row.result c.successor_row-row.ensures (search rules) _ (sym c.in_ok-a.ensures)

pub returns-in_err-b : goal.returns-in_err-b
unfolding successors links_by
returns-in_err-b c =
    let r = c.successor_row-row in
    let f = sym c.in_ok-a.ensures in
    ap two_of c.from_residual-in_err-b.ensures
    ∙ sym
    (two_one _ _ _
    (sym (lowest_term _ _ (omega arith) _ r.ensures) ∙ f)
    (sym (next_term _ _ (omega arith) r.result r.ensures (search rules) _ f) ∙ sym c.in_err-b.ensures))

pub returns : goal.returns
unfolding successors links_by
returns c =
    let r = c.successor_row-row in
    let f = sym c.in_ok-a.ensures in
    sym
    (two_both _ _ _ _
    (sym (lowest_term _ _ (omega arith) _ r.ensures) ∙ f)
    (sym (next_term _ _ (omega arith) r.result r.ensures (search rules) _ f) ∙ sym c.in_ok-b.ensures))
