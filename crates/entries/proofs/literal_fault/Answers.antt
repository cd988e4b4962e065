use Rattle.std.proofs.Common.{sym, ◌∙◌}
use Rattle.logic.specs.Query.{term_role}
use Rattle.byte_tests.specs.Meets.{counted_role}
use Rattle.entries.proofs.Faults.{tested, or_else-some, or_else_next, fault_at_lem, no_fault_at}
use Rattle.entries.proofs.literal_fault.Goals as goal

pub returns-in-Some : goal.returns-in-Some
returns-in-Some c = sym (or_else-some _ (sym c.in-Some.ensures))

pub returns-then-number_refused : goal.returns-then-number_refused
unfolding term_role counted_role
returns-then-number_refused c =
    sym
    (or_else_next _ (sym c.in_default.ensures)
    ∙ fault_at_lem _ _ c.args.query.now _ (tested _ _ c.number_refused.ensures c.byte_at.ensures c.if-number_refused.true))

pub returns : goal.returns
unfolding term_role counted_role
returns c =
    sym
    (or_else_next _ (sym c.in_default.ensures)
    ∙ no_fault_at _ _ c.args.query.now _ (tested _ _ c.number_refused.ensures c.byte_at.ensures c.if-number_refused.false))
