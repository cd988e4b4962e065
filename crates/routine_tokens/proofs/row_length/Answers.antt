-- The row from i on is left. Assumes nothing.
use Rattle.std.proofs.Common.{arith}
use Rattle.routine_tokens.proofs.Rows.{length-end, length_blank, length-next}
use Rattle.routine_tokens.proofs.row_length.Goals as goal

pub returns-then-r-eq32 : goal.returns-then-r-eq32
returns-then-r-eq32 c = omega (arith, length_blank c.args.row.now c.loop-i.i c.loop-i-test.true c.if-r-eq32.true, c.loop-i.invariant)

pub loop-i-preserved : goal.loop-i-preserved
loop-i-preserved c = omega (arith, length-next c.args.row.now c.loop-i.i c.loop-i-test.true c.if-r-eq32.false, c.loop-i.invariant)

pub returns : goal.returns
returns c = omega (arith, length-end c.args.row.now c.loop-i.i c.loop-i-test.false, c.loop-i.invariant)
