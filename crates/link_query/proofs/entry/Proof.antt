-- The byte stands behind the count, or behind its link. Assumes nothing.
use native.Mathlib.Omega.{arith}
use borrow.Author.Tests.{eq-eqb, ne_eqb}
use Rattle.link_query.specs.Said.{entry_in}
use Rattle.link_query.proofs.Said.{one_entry, more_entry}
use Rattle.link_query.proofs.entry.Statement.{statement}
use Rattle.link_query.proofs.entry.Tie as tie

pub entry_spec : {M : Type 1} → statement M
unfolding entry_in
entry_spec =
    tie.close
    (tie.spec
    -- byte-at-requires
    (λ c κs. omega (arith, rw (one_entry c.if-links-eq1.true) at c.requires))
    -- returns
    (λ c. rw (eq-eqb _ _ c.if-links-eq1.true) c.byte_at.ensures)
    -- mul-byte-at
    (λ c. omega (arith, rw (more_entry c.if-links-eq1.false) at c.requires))
    -- byte-at-requires-2
    (λ c κs. omega (arith, rw (more_entry c.if-links-eq1.false) at c.requires))
    -- returns-2
    (λ c. rw (ne_eqb _ _ c.if-links-eq1.false) c.byte_at-2.ensures))
