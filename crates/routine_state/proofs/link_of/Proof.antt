-- By its row and its place. Assumes nothing.
use native.Mathlib.Omega.{arith}
use borrow.Author.Rules.{rules}
use mathlib.Core.Path.{◌∙◌}
use Rattle.routine_state.proofs.Laws.{link_high, link_far, link_here}
use Rattle.routine_state.proofs.link_of.Statement.{statement}
use Rattle.routine_state.proofs.link_of.Tie as tie

pub link_of_spec : {M : Type 1} → statement M
link_of_spec =
    tie.close
    (tie.spec
    -- returns
    (λ c. (link_high _ _ _ c.if-i-gt3.true, omega arith))
    -- returns-2
    (λ c. (link_far _ _ _ c.if-i-gt3.false c.if-v-gt31.true, omega arith))
    -- mul-node-at
    (λ c. search rules)
    -- add-node-at
    (λ c. search rules)
    -- node-at-requires
    (λ c κs. search rules)
    -- returns-3
    (λ c. (c.node_at.ensures.0 ∙ link_here _ _ _ c.if-i-gt3.false c.if-v-gt31.false, c.node_at.ensures.1)))
