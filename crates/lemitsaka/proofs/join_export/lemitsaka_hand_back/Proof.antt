-- The call's answer, as a number. Assumes nothing.
use borrow.Author.Rules.{rules}
use mathlib.Core.Path.{ap, ◌∙◌}
use Rattle.codes.specs.Codes.{code}
use Rattle.answer_codes.specs.Numbers.{hand_digits}
use Rattle.lemitsaka.proofs.join_export.lemitsaka_hand_back.Statement.{statement}
use Rattle.lemitsaka.proofs.join_export.lemitsaka_hand_back.Tie as tie

pub lemitsaka_hand_back_spec : {M : Type 1} → statement M
lemitsaka_hand_back_spec =
    tie.close
    (tie.spec
    -- find-named-requires
    (λ c κs. search rules)
    -- part-number-requires
    (λ c κs. search rules)
    -- returns
    (λ c. c.part_number.ensures ∙ ap (λ a. code (hand_digits a)) c.find_named.ensures.0))
