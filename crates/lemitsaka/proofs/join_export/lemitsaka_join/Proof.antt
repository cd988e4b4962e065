-- The call's answer, as a number. Assumes nothing.
use borrow.Author.Rules.{rules}
use mathlib.Core.Path.{ap, ◌∙◌}
use Rattle.codes.specs.Codes.{code}
use Rattle.answer_codes.specs.Numbers.{join_digits}
use Rattle.lemitsaka.proofs.join_export.lemitsaka_join.Statement.{statement}
use Rattle.lemitsaka.proofs.join_export.lemitsaka_join.Tie as tie

pub lemitsaka_join_spec : {M : Type 1} → statement M
lemitsaka_join_spec =
    tie.close
    (tie.spec
    -- join-requires
    (λ c κs. search rules)
    -- join-number-requires
    (λ c κs. search rules)
    -- same-length
    (λ c. search rules)
    -- returns
    (λ c.
    let did = c.join.ensures in
    record { answers = c.join_number.ensures ∙ ap (λ a. code (join_digits a)) did.answers; leaves = did.leaves }))
