-- One part behind the other. Assumes nothing.
use Prim.Native.Nat.{◌+◌}
use native.Mathlib.Omega.{arith}
use Rattle.text.proofs.Writing.{writes_then, writes_length}
use Rattle.rewriter.specs.Bytes.{cut}
use Rattle.rewriter.proofs.Loops.{cut_long}
use Rattle.link_rewriter.specs.Bytes.{rewritten_bytes}
use Rattle.link_rewriter.proofs.Loops.{entries_long, part_long, links_long}
use Rattle.link_rewriter.proofs.put_query.Statement.{statement}
use Rattle.link_rewriter.proofs.put_query.Tie as tie

pub put_query_spec : {M : Type 1} → statement M
unfolding cut rewritten_bytes
put_query_spec =
    tie.close
    (tie.spec
    -- add-second
    (λ c. omega (arith, c.requires.0))
    -- mul-behind
    (λ c. omega (arith, c.requires.4))
    -- add-behind
    (λ c.
    omega (arith, c.requires.2, c.requires.3))
    -- cast-put-byte
    (λ c. omega (arith, c.requires.0))
    -- put-byte-requires
    (λ c κs. omega arith)
    -- sub-put-entries
    (λ c. omega arith)
    -- part-put-entries-start
    (λ c. omega arith)
    -- part-put-entries-end
    (λ c.
    omega (arith, c.requires.1, c.requires.2))
    -- put-entries-requires
    (λ c κs.
    omega (arith, c.put_byte-begin.ensures.ends, cut_long c.args.query.now 1 (c.args.n + 1) (omega arith) (omega (arith, c.requires.1, c.requires.2)), c.requires.0))
    -- put-part-requires
    (λ c κs. (
      c.requires.1,
      omega (arith, c.requires.2),
      omega (
        arith,
        c.put_byte-begin.ensures.ends,
        c.put_entries-between.ensures.ends,
        entries_long c.args.query.now c.args.n (omega (arith, c.requires.1, c.requires.2)),
        c.requires.0,
        c.requires.3,
      ),
    ))
    -- sub-put-literals
    (λ c. omega arith)
    -- part-put-literals-start
    (λ c. omega arith)
    -- part-put-literals-end
    (λ c.
    c.requires.2)
    -- put-literals-requires
    (λ c κs.
    let pre_2 = c.requires.2 in
    let query = c.args.query.now in (
      part_long query c.args.at c.args.count pre_2,
      omega (
        arith,
        c.put_byte-begin.ensures.ends,
        c.put_entries-between.ensures.ends,
        c.put_part-reach.ensures.ends,
        entries_long query c.args.n (omega (arith, c.requires.1, pre_2)),
        cut_long query (c.args.n + 1) c.args.at c.requires.1 (omega (arith, pre_2)),
        c.requires.0,
        pre_2,
        c.requires.3,
        c.requires.4,
      ),
    ))
    -- put-part-requires-2
    (λ c κs.
    let pre_2 = c.requires.2 in
    let query = c.args.query.now in (
      pre_2,
      omega arith,
      omega (
        arith,
        c.put_byte-begin.ensures.ends,
        c.put_entries-between.ensures.ends,
        c.put_part-reach.ensures.ends,
        c.put_literals-rest.ensures.ends,
        entries_long query c.args.n
            (omega (arith, c.requires.1, pre_2)),
        cut_long query (c.args.n + 1) c.args.at c.requires.1 (omega (arith, pre_2)),
        links_long query c.args.at
            c.args.count pre_2,
        c.requires.0,
        pre_2,
        c.requires.3,
        c.requires.4,
      ),
    ))
    -- same-length
    (λ c.
    writes_length (writes_then c.put_byte-begin.ensures (writes_then c.put_entries-between.ensures
    (writes_then c.put_part-reach.ensures (writes_then c.put_literals-rest.ensures c.put_part.ensures)))))
    -- returns
    (λ c.
    writes_then c.put_byte-begin.ensures
    (writes_then c.put_entries-between.ensures
    (writes_then c.put_part-reach.ensures (writes_then c.put_literals-rest.ensures c.put_part.ensures)))))
