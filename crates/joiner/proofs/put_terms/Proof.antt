-- The count, and one part behind the other. Assumes nothing.
use native.Mathlib.Omega.{arith}
use Rattle.text.proofs.Writing.{writes_then, writes_length}
use Rattle.joining.specs.Joined.{raised_entry}
use Rattle.joiner.proofs.Laws.{entries_long}
use Rattle.joiner.proofs.put_terms.Statement.{statement}
use Rattle.joiner.proofs.put_terms.Tie as tie

pub put_terms_spec : {M : Type 1} → statement M
put_terms_spec =
    tie.close
    (tie.spec
    -- add-put-byte
    (λ c. omega (arith, c.requires.2))
    -- cast-put-byte
    (λ c. omega (arith, c.requires.2))
    -- put-byte-requires
    (λ c κs. omega arith)
    -- put-entries-requires
    (λ c κs.
    (c.requires.0, omega arith, omega (arith, c.put_byte-begin.ensures.ends, c.requires.2), c.requires.3))
    -- put-entries-requires-2
    (λ c κs. (
      c.requires.1,
      omega (arith, c.requires.2),
      omega (
        arith,
        c.put_byte-begin.ensures.ends,
        c.put_entries-next.ensures.ends,
        entries_long (raised_entry 0) c.args.n c.args.first.now c.requires.0,
        c.requires.2,
      ),
      c.requires.4,
    ))
    -- same-length
    (λ c.
    writes_length (writes_then c.put_byte-begin.ensures
    (writes_then c.put_entries-next.ensures c.put_entries.ensures)))
    -- returns
    (λ c.
    writes_then c.put_byte-begin.ensures (writes_then c.put_entries-next.ensures c.put_entries.ensures)))
