-- The literals from k on are left.
use Rattle.std.proofs.Common.{refl, arith}
use Rattle.text.proofs.Writing.{part_from, part_more, part_all}
use Rattle.link_rewriter.proofs.Loops.{left-next, left_end}
use Rattle.link_rewriter.proofs.put_literals.Goals as goal

pub loop-k-init : goal.loop-k-init
loop-k-init c = (part_from _ _ refl, omega arith)

pub loop-k-preserved : goal.loop-k-preserved
loop-k-preserved c = (
  part_more c.loop-k.invariant.0 (left-next c.args.literals.now c.args.count c.requires.0 c.loop-k.k c.loop-k-test.true) c.put_literal-next.ensures,
  omega (arith, c.loop-k.invariant.1, c.put_literal-next.ensures.ends),
)

pub returns : goal.returns
returns c =
    part_all c.loop-k.invariant.0 (left_end c.args.literals.now c.args.count c.requires.0 c.loop-k.k (omega (arith, c.loop-k-test.false)) (omega arith))
