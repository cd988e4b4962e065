use Rattle.query_checks.proofs.Faults.{sections_pass}
use Rattle.query_checks.proofs.bytes_pass.Goals as goal

pub returns : goal.returns
returns c =
    sections_pass _ _ c.requires _ _ _ _ _
    (rw c.entry_kind.ensures at c.section_passes-terms.ensures)
    c.section_passes-equal.ensures
    (rw c.reach_kind.ensures at c.section_passes-reach.ensures)
    c.section_passes-field.ensures
    c.section_passes-boolean.ensures
