-- The answer, as a number. Assumes nothing.
use borrow.Author.Rules.{rules}
use mathlib.Core.Path.{ap, ◌∙◌}
use Rattle.codes.specs.Codes.{code}
use Rattle.answer_codes.specs.Numbers.{formula_digits}
use Rattle.lemitsaka.proofs.formula_export.lemitsaka_formula.Statement.{statement}
use Rattle.lemitsaka.proofs.formula_export.lemitsaka_formula.Tie as tie

pub lemitsaka_formula_spec : {M : Type 1} → statement M
lemitsaka_formula_spec =
    tie.close
    (tie.spec
    -- formula-requires
    (λ c κs. search rules)
    -- formula-number-requires
    (λ c κs. search rules)
    -- same-length
    (λ c. c.formula.auto.report)
    -- returns
    (λ c.
    let did = c.formula.ensures in
    record { answers = c.formula_number.ensures ∙ ap (λ a. code (formula_digits a)) did.answers; leaves = did.leaves }))
