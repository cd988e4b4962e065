-- The call's answer, as a number. Assumes nothing.
use borrow.Author.Rules.{rules}
use mathlib.Core.Path.{ap, ◌∙◌}
use Rattle.codes.specs.Codes.{code}
use Rattle.answer_codes.specs.Numbers.{order_digits}
use Rattle.lemitsaka.proofs.precedence_export.lemitsaka_order.Statement.{statement}
use Rattle.lemitsaka.proofs.precedence_export.lemitsaka_order.Tie as tie

pub lemitsaka_order_spec : {M : Type 1} → statement M
lemitsaka_order_spec =
    tie.close
    (tie.spec
    -- order-of-requires
    (λ c κs. search rules)
    -- order-number-requires
    (λ c κs. search rules)
    -- same-length
    (λ c. search rules)
    -- returns
    (λ c.
    let did = c.order_of.ensures in
    record { answers = c.order_number.ensures ∙ ap (λ a. code (order_digits a)) did.answers; leaves = did.leaves }))
