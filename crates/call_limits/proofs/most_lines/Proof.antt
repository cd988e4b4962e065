-- A quarter of what is left behind the count. Assumes nothing.
use native.Mathlib.Omega.{arith}
use mathlib.Core.Path.{refl}
use mathlib.Core.Logic.{inl, inr}
use Rattle.call_limits.proofs.most_lines.Statement.{statement}
use Rattle.call_limits.proofs.most_lines.Tie as tie

pub most_lines_spec : {M : Type 1} → statement M
most_lines_spec =
    tie.close
    (tie.spec
    -- returns
    (λ c. (omega arith, omega arith, inl refl))
    -- sub-result
    (λ c. omega arith)
    -- returns-2
    (λ c. (omega arith, omega arith, inr (omega arith))))
