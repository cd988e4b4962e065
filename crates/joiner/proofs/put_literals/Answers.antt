-- The literals from k on are left.
use Rattle.std.proofs.Common.{arith}
use Rattle.query.specs.LaysOut.{literal_in}
use Rattle.text.proofs.Writing.{part_from, part_more, part_all, writes_as}
use Rattle.encoding.specs.QueryBytes.{literal_bytes}
use Rattle.joiner.proofs.Laws.{rest_next, rest_end, raised_at, literals-all, literal_small, literal-bytes}
use Rattle.joiner.proofs.put_literals.Goals as goal

pub loop-k-init : goal.loop-k-init
loop-k-init c =
    (part_from _ _ (literals-all c.args.section.0.now c.args.section.1 c.args.section.2 c.args.by.0 c.args.by.1 c.requires.0), omega arith)

pub overflow_add-by : goal.overflow_add-by
overflow_add-by c =
    omega (
      arith,
      c.field-left.ensures,
      (literal_small c.args.section.0.now c.args.section.1 c.args.section.2 c.args.by.0 c.args.by.1 c.requires.0 c.requires.2 c.loop-k.k c.loop-k-test.true).0,
    )

pub overflow_add-by-in-loop-k : goal.overflow_add-by-in-loop-k
overflow_add-by-in-loop-k c =
    omega (
      arith,
      c.right-right.ensures,
      (literal_small c.args.section.0.now c.args.section.1 c.args.section.2 c.args.by.0 c.args.by.1 c.requires.0 c.requires.2 c.loop-k.k c.loop-k-test.true).1,
    )

pub put_literal-next-requires : goal.put_literal-next-requires
put_literal-next-requires c =
    let small =
    literal_small c.args.section.0.now c.args.section.1 c.args.section.2 c.args.by.0 c.args.by.1 c.requires.0 c.requires.2 c.loop-k.k c.loop-k-test.true in (
      omega (arith, c.loop-k.invariant.1, c.requires.1, c.loop-k-test.true),
      omega (arith, c.field-left.ensures, small.0),
      omega (arith, c.right-right.ensures, small.1),
    )

pub loop-k-preserved : goal.loop-k-preserved
loop-k-preserved c = (
  part_more c.loop-k.invariant.0
      (rest_next literal_bytes (raised_at c.args.section.0.now c.args.section.1 c.args.by.0 c.args.by.1) c.args.section.2 c.loop-k.k c.loop-k-test.true)
      (writes_as (literal-bytes c.args.by.0 c.args.by.1 (literal_in c.args.section.0.now c.args.section.1 c.loop-k.k)
      c.sign-plain.ensures c.field-left.ensures c.right-right.ensures) c.put_literal-next.ensures),
  omega (arith, c.loop-k.invariant.1, c.put_literal-next.ensures.ends),
)

pub returns : goal.returns
returns c =
    part_all c.loop-k.invariant.0
    (rest_end literal_bytes (raised_at c.args.section.0.now c.args.section.1 c.args.by.0 c.args.by.1) c.args.section.2 c.loop-k.k c.loop-k-test.false)
