-- The literal is read by its width. Assumes nothing.
use Prim.Native.Nat.{ℕ}
use native.Mathlib.Nat.{add-zero}
use native.Mathlib.Omega.{arith}
use mathlib.Core.Path.{ap}
use lib.Dec.{eqb}
use Rattle.link_query.proofs.Said.{one_reach, more_reach, one_literal, more_literal}
use Rattle.link_query.proofs.reach_sign.Statement.{statement}
use Rattle.link_query.proofs.reach_sign.Tie as tie

pub reach_sign_spec : {M : Type 1} → statement M
reach_sign_spec =
    tie.close
    (tie.spec
    -- sign-requires
    (λ c κs. rw (one_reach c.if-links-eq1.true) at c.requires)
    -- returns
    (λ c. rw (one_literal _ _ _ c.if-links-eq1.true) c.sign.ensures)
    -- linked-byte-requires
    (λ c κs. (rw (more_reach c.if-links-eq1.false) at c.requires, omega arith))
    -- returns-2
    (λ c. rw (more_literal _ _ _ c.if-links-eq1.false) (ap (λ (b : ℕ). eqb b 1) (rw add-zero at c.linked_byte.ensures))))
