-- What is left behind 32s. Assumes nothing.
use native.Mathlib.Omega.{arith}
use borrow.Author.Rules.{rules}
use mathlib.Core.Path.{ap}
use Prim.Native.Nat.{ℕ, ◌%◌}
use Rattle.routine_state.proofs.node_at.Statement.{statement}
use Rattle.routine_state.proofs.node_at.Tie as tie

pub node_at_spec : {M : Type 1} → statement M
node_at_spec =
    tie.close
    (tie.spec
    -- byte-at-requires
    (λ c κs. search rules)
    -- returns
    (λ c. (ap (λ (x : ℕ). x % 32) c.byte_at.ensures.0, omega arith)))
