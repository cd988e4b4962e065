-- The literal is read by its width. Assumes nothing.
use native.Mathlib.Omega.{arith}
use Rattle.link_query.proofs.Said.{more_reach, one_literal, more_literal}
use Rattle.link_query.proofs.reach_link.Statement.{statement}
use Rattle.link_query.proofs.reach_link.Tie as tie

pub reach_link_spec : {M : Type 1} → statement M
reach_link_spec =
    tie.close
    (tie.spec
    -- returns
    (λ c. rw (one_literal _ _ _ c.if-links-eq1.true))
    -- linked-byte-requires
    (λ c κs. (rw (more_reach c.if-links-eq1.false) at c.requires, omega arith))
    -- returns-2
    (λ c. rw (more_literal _ _ _ c.if-links-eq1.false) c.linked_byte.ensures))
