-- Above 99 all are one. Assumes nothing.
use native.Mathlib.Omega.{arith}
use mathlib.Core.Path.{sym}
use borrow.Author.Rules.{rules}
use Rattle.formula_reader.proofs.Laws.{sat_low, sat_high}
use Rattle.formula_reader.proofs.with_digit.Statement.{statement}
use Rattle.formula_reader.proofs.with_digit.Tie as tie

pub with_digit_spec : {M : Type 1} → statement M
with_digit_spec =
    tie.close
    (tie.spec
    -- mul-w
    (λ c. omega arith)
    -- sub-w
    (λ c. omega arith)
    -- cast-w
    (λ c. search rules)
    -- add-w
    (λ c. omega arith)
    -- returns
    (λ c. sym (sat_high _ c.if-w-gt99.true))
    -- returns-2
    (λ c. sym (sat_low _ (omega arith))))
