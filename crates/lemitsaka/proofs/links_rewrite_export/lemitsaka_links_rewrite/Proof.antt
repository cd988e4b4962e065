-- The call's answer, as a number. Assumes nothing.
use borrow.Author.Rules.{rules}
use mathlib.Core.Path.{ap, ◌∙◌}
use Rattle.codes.specs.Codes.{code}
use Rattle.answer_codes.specs.Numbers.{writing_digits}
use Rattle.lemitsaka.proofs.links_rewrite_export.lemitsaka_links_rewrite.Statement.{statement}
use Rattle.lemitsaka.proofs.links_rewrite_export.lemitsaka_links_rewrite.Tie as tie

pub lemitsaka_links_rewrite_spec : {M : Type 1} → statement M
lemitsaka_links_rewrite_spec =
    tie.close
    (tie.spec
    -- rewrite-requires
    (λ c κs. search rules)
    -- rewrite-number-requires
    (λ c κs. search rules)
    -- same-length
    (λ c. search rules)
    -- returns
    (λ c.
    let did = c.rewrite.ensures in
    record { answers = c.rewrite_number.ensures ∙ ap (λ a. code (writing_digits a)) did.answers; leaves = did.leaves }))
