-- The call's answer, as a number. Assumes nothing.
use borrow.Author.Rules.{rules}
use mathlib.Core.Path.{ap, ◌∙◌}
use Rattle.codes.specs.Codes.{code}
use Rattle.answer_codes.specs.Numbers.{verdict_digits}
use Rattle.lemitsaka.proofs.between_export.lemitsaka_between.Statement.{statement}
use Rattle.lemitsaka.proofs.between_export.lemitsaka_between.Tie as tie

pub lemitsaka_between_spec : {M : Type 1} → statement M
lemitsaka_between_spec =
    tie.close
    (tie.spec
    -- between-requires
    (λ c κs. search rules)
    -- between-number-requires
    (λ c κs. search rules)
    -- same-length
    (λ c. search rules)
    -- returns
    (λ c.
    let did = c.between.ensures in
    record { answers = c.between_number.ensures ∙ ap (λ a. code (verdict_digits a)) did.answers; leaves = did.leaves }))
