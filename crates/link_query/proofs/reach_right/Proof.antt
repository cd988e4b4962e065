-- The literal is read by its width. Assumes nothing.
use native.Mathlib.Omega.{arith}
use Rattle.link_query.proofs.Said.{one_reach, more_reach, one_literal, more_literal}
use Rattle.link_query.proofs.reach_right.Statement.{statement}
use Rattle.link_query.proofs.reach_right.Tie as tie

pub reach_right_spec : {M : Type 1} → statement M
reach_right_spec =
    tie.close
    (tie.spec
    -- right-requires
    (λ c κs. rw (one_reach c.if-links-eq1.true) at c.requires)
    -- returns
    (λ c. rw (one_literal _ _ _ c.if-links-eq1.true) c.right.ensures)
    -- linked-byte-requires
    (λ c κs. (rw (more_reach c.if-links-eq1.false) at c.requires, omega arith))
    -- returns-2
    (λ c. rw (more_literal _ _ _ c.if-links-eq1.false) c.linked_byte.ensures))
