-- One section behind the other. Assumes nothing.
use Prim.Native.Nat.{◌+◌}
use native.Mathlib.Omega.{arith}
use Rattle.text.proofs.Writing.{writes_then, writes_length}
use Rattle.rewriter.specs.Bytes.{rewritten_bytes}
use Rattle.rewriter.proofs.Loops.{cut_long, terms_long}
use Rattle.rewriter.proofs.put_query.Statement.{statement}
use Rattle.rewriter.proofs.put_query.Tie as tie

pub put_query_spec : {M : Type 1} → statement M
unfolding rewritten_bytes
put_query_spec =
    tie.close
    (tie.spec
    -- add-fresh
    (λ c. omega (arith, c.requires.0))
    -- put-terms-requires
    (λ c κs.
    (c.requires.0, omega (arith, c.requires.1, c.requires.3), omega (arith, c.requires.2, c.requires.3, c.requires.4)))
    -- put-part-requires
    (λ c κs.
    let pre_3 = c.requires.3 in (
      c.requires.1,
      omega (arith, pre_3),
      omega (
        arith,
        c.put_terms-second.ensures.ends,
        terms_long c.args.n c.args.query.now (omega (arith, c.requires.1, pre_3)),
        c.requires.0,
        c.requires.2,
        pre_3,
        c.requires.4,
      ),
    ))
    -- cast-put-data
    (λ c. omega (arith, c.requires.0))
    -- put-data-requires
    (λ c κs.
    let pre_3 = c.requires.3 in (
      omega (arith, pre_3),
      c.requires.4,
      omega (arith, c.requires.2, pre_3, c.requires.4),
      omega (
        arith,
        c.put_terms-second.ensures.ends,
        c.put_part-next.ensures.ends,
        terms_long c.args.n c.args.query.now (omega (arith, c.requires.1, pre_3)),
        cut_long c.args.query.now (c.args.n + 1) c.args.fourth c.requires.1 (omega (arith, pre_3)),
        c.requires.0,
        c.requires.2,
      ),
    ))
    -- same-length
    (λ c.
    writes_length (writes_then c.put_terms-second.ensures (writes_then c.put_part-next.ensures c.put_data.ensures)))
    -- returns
    (λ c.
    writes_then c.put_terms-second.ensures (writes_then c.put_part-next.ensures c.put_data.ensures)))
