-- By its place. Assumes nothing.
use native.Mathlib.Omega.{arith}
use borrow.Author.Rules.{rules}
use mathlib.Core.Path.{◌∙◌}
use Rattle.routine_state.proofs.Laws.{variable_far, variable_here}
use Rattle.routine_state.proofs.variable_of.Statement.{statement}
use Rattle.routine_state.proofs.variable_of.Tie as tie

pub variable_of_spec : {M : Type 1} → statement M
variable_of_spec =
    tie.close
    (tie.spec
    -- returns
    (λ c. (variable_far _ _ c.if-x-gt31.true, omega arith))
    -- add-node-at
    (λ c. search rules)
    -- node-at-requires
    (λ c κs. search rules)
    -- returns-2
    (λ c. (c.node_at.ensures.0 ∙ variable_here _ _ c.if-x-gt31.false, c.node_at.ensures.1)))
