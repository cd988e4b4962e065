-- The call's answer, as a number. Assumes nothing.
use borrow.Author.Rules.{rules}
use mathlib.Core.Path.{ap, ◌∙◌}
use Rattle.codes.specs.Codes.{code}
use Rattle.answer_codes.specs.Numbers.{verdict_digits}
use Rattle.lemitsaka.proofs.verdict_export.lemitsaka_links_derivation.Statement.{statement}
use Rattle.lemitsaka.proofs.verdict_export.lemitsaka_links_derivation.Tie as tie

pub lemitsaka_links_derivation_spec : {M : Type 1} → statement M
lemitsaka_links_derivation_spec =
    tie.close
    (tie.spec
    -- links-derivation-requires
    (λ c κs. search rules)
    -- verdict-number-requires
    (λ c κs. search rules)
    -- same-length
    (λ c. search rules)
    -- returns
    (λ c.
    let did = c.links_derivation.ensures in
    record { answers = c.verdict_number.ensures ∙ ap (λ a. code (verdict_digits a)) did.answers; leaves = did.leaves }))
