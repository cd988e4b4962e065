use Rattle.std.proofs.Common.{arith, rules}
use Rattle.fractions.proofs.Shares.{total_next, total_end}
use Rattle.fractions.proofs.total_of.Goals as goal

pub loop-count-init : goal.loop-count-init
loop-count-init c = (omega arith, omega arith)

pub loop-count-preserved : goal.loop-count-preserved
loop-count-preserved c = (omega arith, omega (arith, total_next c.args.counts c.loop-count.count-index (omega arith)))

pub returns : goal.returns
returns c = (omega (arith, total_end c.args.counts c.loop-count.count-index (omega arith)), search rules)
