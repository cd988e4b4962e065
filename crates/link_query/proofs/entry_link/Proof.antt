-- The link stands before the byte. Assumes nothing.
use native.Mathlib.Omega.{arith}
use borrow.Author.Tests.{eq-eqb, ne_eqb}
use Rattle.link_query.specs.Said.{link_in}
use Rattle.link_query.proofs.Said.{more_entry}
use Rattle.link_query.proofs.entry_link.Statement.{statement}
use Rattle.link_query.proofs.entry_link.Tie as tie

pub entry_link_spec : {M : Type 1} → statement M
unfolding link_in
entry_link_spec =
    tie.close
    (tie.spec
    -- returns
    (λ c. rw (eq-eqb _ _ c.if-links-eq1.true))
    -- mul-byte-at
    (λ c. omega (arith, rw (more_entry c.if-links-eq1.false) at c.requires.1))
    -- sub-byte-at
    (λ c. omega arith)
    -- byte-at-requires
    (λ c κs. omega (arith, rw (more_entry c.if-links-eq1.false) at c.requires.1))
    -- returns-2
    (λ c. rw (ne_eqb _ _ c.if-links-eq1.false) c.byte_at.ensures))
