-- Each section behind the one before, into zeros. Assumes nothing.
use borrow.Author.Rules.{rules}
use mathlib.Core.Path.{sym, ◌∙◌}
use mathlib.Core.List.{map}
use lib.ListN.{get_or, length-map}
use Rattle.logic.specs.Facts.{terms}
use Rattle.report.proofs.Report.{sections_written}
use Rattle.between_call.proofs.Reporting.{terms-length}
use Rattle.between_call.proofs.write_sections.Statement.{statement}
use Rattle.between_call.proofs.write_sections.Tie as tie

pub write_sections_spec : {M : Type 1} → statement M
write_sections_spec =
    tie.close
    (tie.spec
    -- clear-requires
    (λ c κs. search rules)
    -- put-term-section-requires
    (λ c κs. search rules)
    -- put-term-section-requires-2
    (λ c κs. search rules)
    -- put-term-section-requires-3
    (λ c κs. search rules)
    -- put-requires
    (λ c κs. search rules)
    -- put-requires-2
    (λ c κs. search rules)
    -- same-length
    (λ c. search rules)
    -- returns
    (λ c.
    let a = c.args in
    sections_written _ c.clear.new.buffer c.put_term_section-second.new.buffer
    c.put_term_section-third.new.buffer c.put_term_section-fourth.new.buffer c.put-last.new.buffer c.put.new.buffer
    _ _ _ (terms a.m) (map (λ t. get_or a.links.now t 0) (terms a.m)) (λ t. get_or a.nodes.now t 0) (λ t. get_or a.fields.now t 0) _ _ _ _
    (sym (terms-length a.m)) (sym (length-map (terms a.m) (λ t. get_or a.links.now t 0) ∙ terms-length a.m)) c.clear.ensures
    c.put_term_section-second.auto.buffer c.put_term_section-third.auto.buffer c.put_term_section-fourth.auto.buffer c.put-last.auto.buffer
    c.put_term_section-second.ensures c.put_term_section-third.ensures
    c.put_term_section-fourth.ensures c.put-last.ensures c.put.ensures.1))
