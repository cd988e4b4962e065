use Rattle.std.proofs.Common.{sym, ◌∙◌}
use Rattle.entries.proofs.Faults.{tested, or_else-some, or_else_next, fault_at_lem, no_fault_at}
use Rattle.entries.proofs.flag_fault.Goals as goal

pub returns-then-sign_refused : goal.returns-then-sign_refused
returns-then-sign_refused c =
    sym (or_else-some _ (fault_at_lem _ _ c.args.query.now _ (tested _ _ c.sign_refused.ensures c.byte_at.ensures c.if-sign_refused.true)))

pub returns-then-number_refused : goal.returns-then-number_refused
returns-then-number_refused c =
    sym
    (or_else_next _ (no_fault_at _ _ c.args.query.now _ (tested _ _ c.sign_refused.ensures c.byte_at.ensures c.if-sign_refused.false))
    ∙ fault_at_lem _ _ c.args.query.now _ (tested _ _ c.number_refused.ensures c.byte_at-2.ensures c.if-number_refused.true))

pub returns : goal.returns
returns c =
    sym
    (or_else_next _ (no_fault_at _ _ c.args.query.now _ (tested _ _ c.sign_refused.ensures c.byte_at.ensures c.if-sign_refused.false))
    ∙ no_fault_at _ _ c.args.query.now _ (tested _ _ c.number_refused.ensures c.byte_at-2.ensures c.if-number_refused.false))
