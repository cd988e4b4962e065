-- By the kind of a base. Assumes nothing.
use native.Mathlib.Omega.{arith}
use borrow.Author.Rules.{rules}
use Rattle.routine_formulas.proofs.Terms.{base_null, base_variable, base_bound}
use Rattle.routine_formulas.proofs.base_node.Statement.{statement}
use Rattle.routine_formulas.proofs.base_node.Tie as tie

pub base_node_spec : {M : Type 1} → statement M
base_node_spec =
    tie.close
    (tie.spec
    -- returns
    (λ c. (base_null _ _ _ c.if-base-eq0.true, omega arith))
    -- sub-variable-of
    (λ c. omega arith)
    -- variable-of-requires
    (λ c κs. search rules)
    -- returns-2
    (λ c. (base_variable _ _ _ _ c.if-base-eq0.false c.if-base-lt64.true c.variable_of.ensures.0, c.variable_of.ensures.1))
    -- bound-node-requires
    (λ c κs. search rules)
    -- returns-3
    (λ c. (base_bound _ _ _ _ c.if-base-eq0.false c.if-base-lt64.false c.bound_node.ensures.0, c.bound_node.ensures.1)))
