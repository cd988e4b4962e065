-- The call's answer, as a number. Assumes nothing.
use borrow.Author.Rules.{rules}
use mathlib.Core.Path.{ap, ◌∙◌}
use Rattle.codes.specs.Codes.{code}
use Rattle.answer_codes.specs.Numbers.{verdict_digits}
use Rattle.lemitsaka.proofs.verdict_export.lemitsaka_derivation.Statement.{statement}
use Rattle.lemitsaka.proofs.verdict_export.lemitsaka_derivation.Tie as tie

pub lemitsaka_derivation_spec : {M : Type 1} → statement M
lemitsaka_derivation_spec =
    tie.close
    (tie.spec
    -- derivation-requires
    (λ c κs. search rules)
    -- verdict-number-requires
    (λ c κs. search rules)
    -- same-length
    (λ c. search rules)
    -- returns
    (λ c.
    let did = c.derivation.ensures in
    record { answers = c.verdict_number.ensures ∙ ap (λ a. code (verdict_digits a)) did.answers; leaves = did.leaves }))
