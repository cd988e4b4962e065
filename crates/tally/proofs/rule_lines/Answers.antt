use Rattle.std.proofs.Common.{◌∙◌, sym, ap, refl, arith, length}
use Rattle.tally.proofs.Counts.{zeros-none, raised-length, count_starts, count_again, count_end, raised_below, none_below, below_more, below_as}
use Rattle.tally.proofs.rule_lines.Goals as goal

pub loop-i-init : goal.loop-i-init
loop-i-init c = (refl, below_as zeros-none none_below, count_starts _ c.byte_at.ensures.0 c.byte_at-2.ensures.0)

pub count_line-requires : goal.count_line-requires
count_line-requires c = (below_more c.loop-i.counts (omega arith) c.loop-i.invariant.1, c.loop-i.invariant.0)

pub loop-i-preserved : goal.loop-i-preserved
loop-i-preserved c = (
  ap length c.count_line.ensures ∙ raised-length _ _ ∙ c.loop-i.invariant.0,
  below_as c.count_line.ensures (raised_below _ _ c.loop-i.invariant.1),
  count_again _ _ c.loop-i.counts c.loop-i.i _ c.count_line.ensures c.byte_at-kind.ensures.0 c.loop-i-test.true ∙ c.loop-i.invariant.2,
)

pub returns : goal.returns
returns c = sym (count_end _ _ c.loop-i.counts c.loop-i.i c.loop-i-test.false) ∙ c.loop-i.invariant.2
