-- The call's answer, as a number. Assumes nothing.
use borrow.Author.Rules.{rules}
use mathlib.Core.Path.{ap, ◌∙◌}
use Rattle.codes.specs.Codes.{code}
use Rattle.answer_codes.specs.Numbers.{verdict_digits}
use Rattle.lemitsaka.proofs.verdict_export.lemitsaka_verdict.Statement.{statement}
use Rattle.lemitsaka.proofs.verdict_export.lemitsaka_verdict.Tie as tie

pub lemitsaka_verdict_spec : {M : Type 1} → statement M
lemitsaka_verdict_spec =
    tie.close
    (tie.spec
    -- verdict-requires
    (λ c κs. search rules)
    -- verdict-number-requires
    (λ c κs. search rules)
    -- same-length
    (λ c. search rules)
    -- returns
    (λ c.
    let did = c.verdict.ensures in
    record { answers = c.verdict_number.ensures ∙ ap (λ a. code (verdict_digits a)) did.answers; leaves = did.leaves }))
