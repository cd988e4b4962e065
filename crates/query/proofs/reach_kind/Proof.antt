-- One link is told from three. Assumes nothing.
use borrow.Author.Tests.{eq-eqb, ne_eqb}
use Rattle.query.specs.Forms.{reach_kind}
use Rattle.query.proofs.reach_kind.Statement.{statement}
use Rattle.query.proofs.reach_kind.Tie as tie

pub reach_kind_spec : {M : Type 1} → statement M
unfolding reach_kind
reach_kind_spec =
    tie.close
    (tie.spec
    -- returns
    (λ c. rw (eq-eqb _ _ c.if-links-eq1.true))
    -- returns-2
    (λ c. rw (ne_eqb _ _ c.if-links-eq1.false)))
