-- The pairs from k on are left.
use Rattle.std.proofs.Common.{arith}
use Rattle.text.proofs.Writing.{part_from, part_more, part_all, writes_as}
use Rattle.encoding.specs.QueryBytes.{literal_bytes}
use Rattle.joining.specs.Joined.{pair_literal}
use Rattle.joiner.proofs.Laws.{rest_next, rest_end, pair_in, pairs-all, pair_small, pair-bytes}
use Rattle.joiner.proofs.put_pairs.Goals as goal

pub loop-k-init : goal.loop-k-init
loop-k-init c = (part_from _ _ (pairs-all c.args.pairs.now c.args.count c.requires.0 c.args.n), omega arith)

pub overflow_add-n : goal.overflow_add-n
overflow_add-n c =
    omega (arith, c.byte_at-b.ensures, (pair_small c.args.pairs.now c.args.count c.requires.0 c.args.n c.requires.3 c.loop-k.k c.loop-k-test.true).1)

pub put_literal-next-requires : goal.put_literal-next-requires
put_literal-next-requires c =
    let small = pair_small c.args.pairs.now c.args.count c.requires.0 c.args.n c.requires.3 c.loop-k.k c.loop-k-test.true in (
      omega (arith, c.loop-k.invariant.1, c.requires.2, c.loop-k-test.true),
      omega (arith, c.byte_at-a.ensures, small.0),
      omega (arith, c.byte_at-b.ensures, small.1),
    )

pub loop-k-preserved : goal.loop-k-preserved
loop-k-preserved c = (
  part_more c.loop-k.invariant.0
      (rest_next literal_bytes (λ i. pair_literal c.args.n (pair_in c.args.pairs.now i)) c.args.count c.loop-k.k c.loop-k-test.true)
      (writes_as (pair-bytes c.args.n (pair_in c.args.pairs.now c.loop-k.k) c.byte_at-a.ensures c.byte_at-b.ensures) c.put_literal-next.ensures),
  omega (arith, c.loop-k.invariant.1, c.put_literal-next.ensures.ends),
)

pub returns : goal.returns
returns c =
    part_all c.loop-k.invariant.0
    (rest_end literal_bytes (λ i. pair_literal c.args.n (pair_in c.args.pairs.now i)) c.args.count c.loop-k.k c.loop-k-test.false)
