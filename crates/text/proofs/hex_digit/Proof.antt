-- Assumes nothing.
use borrow.Author.Rules.{rules}
use mathlib.Core.Path.{sym}
use Rattle.text.proofs.Digits.{hex_digit_low, hex_digit_high}
use Rattle.text.proofs.hex_digit.Statement.{statement}
use Rattle.text.proofs.hex_digit.Tie as tie

pub hex_digit_spec : {M : Type 1} → statement M
hex_digit_spec =
    tie.close
    (tie.spec
    -- add-result
    (λ c. search rules)
    -- returns
    (λ c. sym (hex_digit_low _ c.if-d-lt10.true))
    -- add-result-2
    (λ c. search rules)
    -- returns-2
    (λ c. sym (hex_digit_high _ c.if-d-lt10.false)))
