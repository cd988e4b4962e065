-- The terms that are nodes are marked, counted and numbered, and the sections are written. Assumes nothing.
use Rattle.std.proofs.Common.{arith, ap, ◌∙◌, ◌≤◌}
use Rattle.logic.specs.Calls.{padded}
use Rattle.report.proofs.Report.{fields_in, few_nodes, sections-room, report_is}
use Rattle.report.proofs.write_report.Goals as goal

pub number_nodes-list-requires : goal.number_nodes-list-requires
number_nodes-list-requires c =
    let p = c.requires.1 in
    let counted = c.count_marks-count.ensures in
    (p.laid.terms_within, omega (arith, counted, few_nodes _ _ _ p _ c.mark_nodes-marks.ensures), counted)

pub data_bytes-fields-requires : goal.data_bytes-fields-requires
data_bytes-fields-requires c = let p = c.requires.1 in (p.laid.terms_within, p.laid.field_fit, fields_in _ _ _ p)

pub write_sections-requires : goal.write_sections-requires
write_sections-requires c =
    let p = c.requires in
    let counted = c.count_marks-count.ensures in
    let few : c.count_marks-count.result ≤ 16 = omega (arith, few_nodes _ _ _ p.1 _ c.mark_nodes-marks.ensures, counted) in (
      record { terms_within = p.1.laid.terms_within; few = few; counted = counted; numbers = c.number_nodes-list.ensures },
      sections-room _ _ _ _ p.1.laid.terms_within few p.0,
    )

pub returns : goal.returns
returns c =
    c.write_sections.ensures
    ∙ ap (padded _)
    (report_is _ _ _ c.requires.1 _ c.mark_nodes-marks.ensures _
    c.number_nodes-list.ensures c.nodes_of_terms-places.result c.data_bytes-fields.result
    c.nodes_of_terms-places.ensures c.data_bytes-fields.ensures)
