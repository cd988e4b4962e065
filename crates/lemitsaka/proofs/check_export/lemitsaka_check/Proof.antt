-- The call's answer, as a number. Assumes nothing.
use borrow.Author.Rules.{rules}
use mathlib.Core.Path.{ap, ◌∙◌}
use Rattle.codes.specs.Codes.{code}
use Rattle.answer_codes.specs.Numbers.{check_digits}
use Rattle.lemitsaka.proofs.check_export.lemitsaka_check.Statement.{statement}
use Rattle.lemitsaka.proofs.check_export.lemitsaka_check.Tie as tie

pub lemitsaka_check_spec : {M : Type 1} → statement M
lemitsaka_check_spec =
    tie.close
    (tie.spec
    -- check-requires
    (λ c κs. search rules)
    -- check-number-requires
    (λ c κs. search rules)
    -- returns
    (λ c. c.check_number.ensures ∙ ap (λ a. code (check_digits a)) c.check.ensures))
