-- The bytes from i to the place are left. Assumes nothing.
use Rattle.std.proofs.Common.{arith, ◌∙◌}
use Rattle.routine_tokens.proofs.Bytes.{column_start, column_step, column_done}
use Rattle.routine_tokens.proofs.column_of.Goals as goal

pub loop-i-init : goal.loop-i-init
loop-i-init c = (omega arith, column_start _ _)

pub loop-i-preserved : goal.loop-i-preserved
loop-i-preserved c =
    let s = column_step c.args.text.now c.loop-i.i _ c.loop-i.column _ (omega arith) c.loop-i-test.true c.column_behind-column.ensures.0 in
    (omega (arith, c.column_behind-column.ensures.1, c.loop-i.invariant.0), s ∙ c.loop-i.invariant.1)

pub returns : goal.returns
returns c = (column_done c.args.text.now c.loop-i.i _ _ c.loop-i-test.false ∙ c.loop-i.invariant.1, omega (arith, c.loop-i.invariant.0))
