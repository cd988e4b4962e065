-- Assumes nothing.
use native.Mathlib.Omega.{arith}
use Rattle.routine_tokens.proofs.Bytes.{column_feed, column_more}
use Rattle.routine_tokens.proofs.column_behind.Statement.{statement}
use Rattle.routine_tokens.proofs.column_behind.Tie as tie

pub column_behind_spec : {M : Type 1} → statement M
column_behind_spec =
    tie.close
    (tie.spec
    -- returns
    (λ c. (column_feed _ c.if-b-eq10.true, omega arith))
    -- add-result
    (λ c. omega arith)
    -- returns-2
    (λ c. (column_more _ c.if-b-eq10.false, omega arith)))
