-- By the least step count. Assumes nothing.
use borrow.Author.Rules.{rules}
use Rattle.routine_state.proofs.Laws.{reaches_is}
use Rattle.routine_state.proofs.reaches.Statement.{statement}
use Rattle.routine_state.proofs.reaches.Tie as tie

pub reaches_spec : {M : Type 1} → statement M
reaches_spec =
    tie.close
    (tie.spec
    -- size-of-requires
    (λ c κs. search rules)
    -- step-count-requires
    (λ c κs. search rules)
    -- returns
    (λ c. reaches_is _ _ _ _ _ _ c.size_of-n.ensures.0 c.step_count.ensures.0))
