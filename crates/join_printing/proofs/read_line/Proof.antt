-- Assumes nothing.
use borrow.Author.Rules.{rules}
use native.Mathlib.Omega.{arith}
use Rattle.join_printing.proofs.Texts.{line_long, line_read}
use Rattle.join_printing.proofs.read_line.Statement.{statement}
use Rattle.join_printing.proofs.read_line.Tie as tie

pub read_line_spec : {M : Type 1} → statement M
read_line_spec =
    tie.close
    (tie.spec
    -- returns
    (λ c. (omega arith, line_long _ c.if-text-gt64.true))
    -- put-numbers-requires
    (λ c κs. (omega arith, omega (arith, c.if-text-gt64.false)))
    -- same-length
    (λ c. search rules)
    -- returns-2
    (λ c.
    line_read _ _ _ _ c.if-text-gt64.false c.requires c.put_numbers.ensures))
