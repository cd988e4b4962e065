-- The bytes of each section, and the sections. Assumes nothing.
use Rattle.std.proofs.Common.{arith, ap, ◌∙◌}
use Rattle.logic.specs.Calls.{padded}
use Rattle.between_call.proofs.Reporting.{fields_in, few_successors, report_is}
use Rattle.between_call.proofs.write_report.Goals as goal

pub mark_fields-marks-requires : goal.mark_fields-marks-requires
mark_fields-marks-requires c = (c.requires.1.laid.field_fit, fields_in _ _ _ _ c.requires.1)

pub row_bytes-fields-requires : goal.row_bytes-fields-requires
row_bytes-fields-requires c = let p = few_successors _ _ _ _ c.requires.1 in omega (arith, c.from-m.ensures)

pub write_sections-requires : goal.write_sections-requires
write_sections-requires c =
    let p = few_successors _ _ _ _ c.requires.1 in (omega (arith, c.from-m.ensures), c.requires.1.laid.terms_within, c.requires.0)

pub returns : goal.returns
returns c between =
    c.write_sections.ensures
    ∙ ap (padded _)
    (report_is _ _ _ _ c.requires.1 c.mark_fields-marks.result c.row_bytes-fields.result _ c.from-m.ensures c.mark_fields-marks.ensures c.row_bytes-fields.ensures between)
