use Rattle.std.proofs.Common.{arith}
use Rattle.text.proofs.Writing.{part_from, part_more, part_all}
use Rattle.fractions.proofs.Shares.{shares_whole, shares_next, shares_end, part_at_most}
use Rattle.fractions.proofs.put_shares.Goals as goal

pub loop-count-init : goal.loop-count-init
loop-count-init c = (omega arith, c.total_of-total.ensures.0, part_from _ _ (shares_whole _ _ c.total_of-total.ensures.0))

pub put_share-to-requires : goal.put_share-to-requires
put_share-to-requires c = (omega arith, omega (arith, part_at_most c.args.counts c.loop-count.count-index (omega arith)))

pub loop-count-preserved : goal.loop-count-preserved
loop-count-preserved c = (
  omega (arith, c.put_share-to.ensures.1),
  c.loop-count.invariant.1,
  part_more c.loop-count.invariant.2 (shares_next _ _ c.loop-count.count-index (omega arith)) c.put_share-to.ensures.0,
)

pub returns : goal.returns
returns c = (part_all c.loop-count.invariant.2 (shares_end _ _ c.loop-count.count-index (omega arith)), omega arith)
