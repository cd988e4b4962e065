-- The bytes are in the other order. Assumes nothing.
use native.Mathlib.Omega.{arith}
use borrow.Author.Rules.{rules}
use mathlib.Core.Path.{◌∙◌}
use Rattle.routine_formulas.proofs.Terms.{bound_here, bound_none}
use Rattle.routine_formulas.proofs.bound_node.Statement.{statement}
use Rattle.routine_formulas.proofs.bound_node.Tie as tie

pub bound_node_spec : {M : Type 1} → statement M
bound_node_spec =
    tie.close
    (tie.spec
    -- sub-node-at
    (λ c. omega arith)
    -- sub-node-at-2
    (λ c. omega arith)
    -- node-at-requires
    (λ c κs. search rules)
    -- returns
    (λ c. (c.node_at.ensures.0 ∙ bound_here _ _ _ c.if-i-d.true, c.node_at.ensures.1))
    -- returns-2
    (λ c. (bound_none _ _ _ c.if-i-d.false, omega arith)))
