use Rattle.std.proofs.Common.{sym, ◌∙◌}
use Rattle.entries.proofs.Faults.{or_else-some, or_else_next}
use Rattle.query_checks.proofs.Faults.{byte_faults}
use Rattle.query_checks.proofs.byte_fault.Goals as goal

pub returns-in-Some : goal.returns-in-Some
returns-in-Some c most excess =
    sym
    (byte_faults _ _ _ c.requires most excess
    ∙ or_else-some _ (sym (rw c.entry_kind.ensures at c.in-Some.ensures)))

pub returns-in-Some-section_fault : goal.returns-in-Some-section_fault
returns-in-Some-section_fault c most excess =
    sym
    (byte_faults _ _ _ c.requires most excess
    ∙ or_else_next _ (sym (rw c.entry_kind.ensures at c.in_default.ensures))
    ∙ or_else-some _ (sym c.in-Some-section_fault.ensures))

pub returns-in-Some-section_fault-2 : goal.returns-in-Some-section_fault-2
returns-in-Some-section_fault-2 c most excess =
    sym
    (byte_faults _ _ _ c.requires most excess
    ∙ or_else_next _ (sym (rw c.entry_kind.ensures at c.in_default.ensures))
    ∙ or_else_next _ (sym c.in_default-section_fault.ensures)
    ∙ or_else-some _ (sym (rw c.reach_kind.ensures at c.in-Some-section_fault-2.ensures)))

pub returns-in-Some-section_fault-3 : goal.returns-in-Some-section_fault-3
returns-in-Some-section_fault-3 c most excess =
    sym
    (byte_faults _ _ _ c.requires most excess
    ∙ or_else_next _ (sym (rw c.entry_kind.ensures at c.in_default.ensures))
    ∙ or_else_next _ (sym c.in_default-section_fault.ensures)
    ∙ or_else_next _ (sym (rw c.reach_kind.ensures at c.in_default-section_fault-2.ensures))
    ∙ or_else-some _ (sym c.in-Some-section_fault-3.ensures))

pub returns : goal.returns
returns c most excess =
    sym
    (byte_faults _ _ _ c.requires most excess
    ∙ or_else_next _ (sym (rw c.entry_kind.ensures at c.in_default.ensures))
    ∙ or_else_next _ (sym c.in_default-section_fault.ensures)
    ∙ or_else_next _ (sym (rw c.reach_kind.ensures at c.in_default-section_fault-2.ensures))
    ∙ or_else_next _ (sym c.in_default-section_fault-3.ensures)
    ∙ sym c.section_fault-5.ensures)
