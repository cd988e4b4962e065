-- Assumes nothing.
use Rattle.decimal_lines.proofs.Reading.{ends-not, ends_blank, ends_line}
use Rattle.decimal_lines.proofs.ends_number.Statement.{statement}
use Rattle.decimal_lines.proofs.ends_number.Tie as tie

pub ends_number_spec : {M : Type 1} → statement M
ends_number_spec =
    tie.close
    (tie.spec
    -- returns
    (λ c. ends-not _ _ c.if-not-begun.true)
    -- returns-2
    (λ c. ends_blank _ _ c.if-not-begun.false c.if-place-lt3.true)
    -- returns-3
    (λ c. ends_line _ _ c.if-not-begun.false c.if-place-lt3.false))
