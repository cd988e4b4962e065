use Rattle.std.proofs.Common.{sym}
use Rattle.entries.proofs.Faults.{tested, fault_at_lem, no_fault_at}
use Rattle.entries.proofs.term_fault.Goals as goal

pub returns-then-entry_refused : goal.returns-then-entry_refused
returns-then-entry_refused c =
    rw (sym c.number.ensures)
    (sym (fault_at_lem _ _ c.args.query.now _ (tested _ _ c.entry_refused.ensures c.byte_at.ensures c.if-entry_refused.true)))

pub returns : goal.returns
returns c =
    rw (sym c.number.ensures)
    (sym (no_fault_at _ _ c.args.query.now _ (tested _ _ c.entry_refused.ensures c.byte_at.ensures c.if-entry_refused.false)))
