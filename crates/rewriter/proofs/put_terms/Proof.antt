-- The count, the entries, and the fresh variable's. Assumes nothing.
use Prim.Native.Nat.{◌+◌}
use native.Mathlib.Omega.{arith}
use Rattle.text.proofs.Writing.{writes_then, writes_length}
use Rattle.rewriter.specs.Bytes.{term_bytes}
use Rattle.rewriter.proofs.Loops.{cut_long}
use Rattle.rewriter.proofs.put_terms.Statement.{statement}
use Rattle.rewriter.proofs.put_terms.Tie as tie

pub put_terms_spec : {M : Type 1} → statement M
unfolding term_bytes
put_terms_spec =
    tie.close
    (tie.spec
    -- add-fresh
    (λ c. omega (arith, c.requires.0))
    -- cast-put-byte
    (λ c. omega (arith, c.requires.0))
    -- put-byte-requires
    (λ c κs. omega arith)
    -- put-part-requires
    (λ c κs.
    (omega arith, c.requires.1, omega (arith, c.put_byte-begin.ensures.ends, c.requires.2)))
    -- put-byte-requires-2
    (λ c κs.
    omega (
      arith,
      c.put_byte-begin.ensures.ends,
      c.put_part-last.ensures.ends,
      cut_long c.args.query.now 1 (c.args.n + 1) (omega arith) c.requires.1,
      c.requires.0,
    ))
    -- same-length
    (λ c.
    writes_length (writes_then c.put_byte-begin.ensures (writes_then c.put_part-last.ensures c.put_byte.ensures)))
    -- returns
    (λ c.
    writes_then c.put_byte-begin.ensures (writes_then c.put_part-last.ensures c.put_byte.ensures)))
