-- By the least step counts. Assumes nothing.
use borrow.Author.Rules.{rules}
use Rattle.routine_state.proofs.Laws.{between_is}
use Rattle.routine_state.proofs.between.Statement.{statement}
use Rattle.routine_state.proofs.between.Tie as tie

pub between_spec : {M : Type 1} → statement M
between_spec =
    tie.close
    (tie.spec
    -- size-of-requires
    (λ c κs. search rules)
    -- step-count-requires
    (λ c κs. search rules)
    -- step-count-requires-2
    (λ c κs. search rules)
    -- returns
    (λ c. between_is _ _ _ _ _ _ _ _ c.size_of-n.ensures.0 c.step_count-middle.ensures.0 c.step_count-last.ensures.0))
