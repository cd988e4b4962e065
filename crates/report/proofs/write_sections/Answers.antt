-- The sections one behind the other. Assumes nothing.
use Rattle.std.proofs.Common.{ℕ, ◌*◌, ap, sym, ◌∙◌, get_or}
use Rattle.facts.specs.Path.{path_of}
use Rattle.heap_nodes.specs.Nodes.{marked}
use Rattle.report.specs.Bytes.{all_successors}
use Rattle.report.proofs.Report.{sections_written, successors_counted}
use Rattle.report.proofs.write_sections.Goals as goal

pub returns : goal.returns
returns c =
    let p = c.requires.0 in
    let a = c.args in
    let n = a.nodes.now.terms in
    let ts = marked a.nodes.now.marks a.nodes.now.terms in
    let s = path_of a.s.now in
    sections_written _ c.clear.new.buffer c.put_successor_section-second.new.buffer
    c.put_term_section-third.new.buffer c.put_node_section-fourth.new.buffer c.put-last.new.buffer c.put.new.buffer
    _ _ _ ts (all_successors n s ts) (λ t. get_or a.places.now t 0) (λ t. get_or a.fields.now t 0) _ _ _ _
    p.counted (ap (λ (k : ℕ). s.links * k) p.counted ∙ sym (successors_counted n s ts)) c.clear.ensures
    c.put_successor_section-second.auto.buffer c.put_term_section-third.auto.buffer c.put_node_section-fourth.auto.buffer c.put-last.auto.buffer
    c.put_successor_section-second.ensures c.put_term_section-third.ensures
    c.put_node_section-fourth.ensures c.put-last.ensures c.put.ensures.1
