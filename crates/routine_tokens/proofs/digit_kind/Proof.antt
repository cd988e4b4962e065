-- Assumes nothing.
use borrow.Author.Rules.{rules}
use Rattle.routine_tokens.proofs.Rows.{digits_long, digit_zero, digit_one, digit_other}
use Rattle.routine_tokens.proofs.digit_kind.Statement.{statement}
use Rattle.routine_tokens.proofs.digit_kind.Tie as tie

pub digit_kind_spec : {M : Type 1} → statement M
digit_kind_spec =
    tie.close
    (tie.spec
    -- returns
    (λ c. digits_long _ c.if-word-gt1.true)
    -- shared-slice-read-if2
    (λ c. search rules)
    -- returns-2
    (λ c. digit_zero _ c.requires c.if-word-gt1.false c.if-word-eq48.true)
    -- shared-slice-read-if3
    (λ c. search rules)
    -- returns-3
    (λ c. digit_one _ c.requires c.if-word-gt1.false c.if-word-eq48.false c.if-word-eq49.true)
    -- returns-4
    (λ c. digit_other _ c.requires c.if-word-gt1.false c.if-word-eq48.false c.if-word-eq49.false))
