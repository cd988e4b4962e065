-- Assumes nothing.
use native.Mathlib.Omega.{arith}
use Rattle.routine_tokens.proofs.Bytes.{line_feed, line_same}
use Rattle.routine_tokens.proofs.line_behind.Statement.{statement}
use Rattle.routine_tokens.proofs.line_behind.Tie as tie

pub line_behind_spec : {M : Type 1} → statement M
line_behind_spec =
    tie.close
    (tie.spec
    -- add-result
    (λ c. omega arith)
    -- returns
    (λ c. (line_feed _ c.if-b-eq10.true, omega arith))
    -- returns-2
    (λ c. (line_same _ c.if-b-eq10.false, omega arith)))
