-- The count, the literals that there were, and the booleans. Assumes nothing.
use Prim.Native.Nat.{◌+◌, ◌*◌}
use native.Mathlib.Omega.{arith}
use Rattle.text.proofs.Writing.{writes_then, writes_length}
use Rattle.rewriter.specs.Bytes.{cut, data_bytes}
use Rattle.rewriter.proofs.Loops.{cut_long, fields_long, booleans_long}
use Rattle.rewriter.proofs.put_data.Statement.{statement}
use Rattle.rewriter.proofs.put_data.Tie as tie

pub put_data_spec : {M : Type 1} → statement M
unfolding cut data_bytes
put_data_spec =
    tie.close
    (tie.spec
    -- add-begin
    (λ c.
    omega (arith, c.requires.0, c.requires.2))
    -- mul-end
    (λ c.
    omega (arith, c.requires.0, c.requires.2))
    -- add-end
    (λ c.
    omega (arith, c.requires.0, c.requires.2))
    -- add-booleans
    (λ c.
    omega (arith, c.requires.0, c.requires.2))
    -- mul-behind
    (λ c.
    omega (arith, c.requires.0, c.requires.2))
    -- add-behind
    (λ c.
    omega (arith, c.requires.0, c.requires.2))
    -- add-put-byte
    (λ c. omega (arith, c.requires.1))
    -- cast-put-byte
    (λ c. omega (arith, c.requires.1))
    -- put-byte-requires
    (λ c κs. omega (arith, c.requires.3))
    -- put-part-requires
    (λ c κs.
    (omega arith, omega (arith, c.requires.0), omega (arith, c.put_byte-first.ensures.ends, c.requires.2, c.requires.3)))
    -- sub-put-fields
    (λ c. omega arith)
    -- part-put-fields-start
    (λ c. omega arith)
    -- part-put-fields-end
    (λ c. omega (arith, c.requires.0))
    -- put-fields-requires
    (λ c κs.
    let fourth = c.args.fourth in (
      booleans_long c.args.query.now (fourth + 1 + 3 * c.args.fields + 1) c.args.count (omega (arith, c.requires.0)),
      omega (
        arith,
        c.put_byte-first.ensures.ends,
        c.put_part-next.ensures.ends,
        cut_long c.args.query.now (fourth + 1) (fourth + 1 + 3 * c.args.fields) (omega arith) (omega (arith, c.requires.0)),
        c.requires.1,
        c.requires.3,
      ),
    ))
    -- put-byte-requires-2
    (λ c κs.
    let count = c.args.count in let fields = c.args.fields in let fourth = c.args.fourth in
    let query = c.args.query.now in
    omega (
      arith,
      c.put_byte-first.ensures.ends,
      c.put_part-next.ensures.ends,
      c.put_fields-last.ensures.ends,
      cut_long query (fourth + 1) (fourth + 1 + 3 * fields) (omega arith) (omega (arith, c.requires.0)),
      fields_long c.args.fresh count (cut query (fourth + 1 + 3 * fields + 1) (fourth + 1 + 3 * fields + 1 + 2 * count))
          (booleans_long query (fourth + 1 + 3 * fields + 1) count (omega (arith, c.requires.0))),
      c.requires.1,
      c.requires.3,
    ))
    -- same-length
    (λ c.
    writes_length (writes_then c.put_byte-first.ensures
    (writes_then c.put_part-next.ensures (writes_then c.put_fields-last.ensures c.put_byte.ensures))))
    -- returns
    (λ c.
    writes_then c.put_byte-first.ensures
    (writes_then c.put_part-next.ensures (writes_then c.put_fields-last.ensures c.put_byte.ensures))))
