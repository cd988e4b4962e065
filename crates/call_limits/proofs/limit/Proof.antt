-- At most 784. Assumes nothing.
use native.Mathlib.Omega.{arith}
use native.Mathlib.Nat.{mul-le-mul}
use borrow.Author.Rules.{rules}
use Rattle.call_limits.proofs.limit.Statement.{statement}
use Rattle.call_limits.proofs.limit.Tie as tie

pub limit_spec : {M : Type 1} → statement M
limit_spec =
    tie.close
    (tie.spec
    -- mul-result
    (λ c. omega (arith, mul-le-mul c.requires.1 c.requires.1))
    -- mul-result-2
    (λ c. omega (arith, mul-le-mul c.requires.0 (mul-le-mul c.requires.1 c.requires.1)))
    -- add-result
    (λ c. omega (arith, c.requires.1, mul-le-mul c.requires.0 (mul-le-mul c.requires.1 c.requires.1)))
    -- returns
    (λ c. search rules))
