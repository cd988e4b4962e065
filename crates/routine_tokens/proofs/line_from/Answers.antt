-- The bytes from i to the place are left. Assumes nothing.
use Rattle.std.proofs.Common.{arith, ◌∙◌}
use Rattle.routine_tokens.proofs.Bytes.{line_step, line_done}
use Rattle.routine_tokens.proofs.line_from.Goals as goal

pub loop-i-preserved : goal.loop-i-preserved
loop-i-preserved c =
    let s = line_step c.args.text.now c.loop-i.i _ c.loop-i.l _ (omega arith) c.loop-i-test.true c.line_behind-l.ensures.0 in
    (omega (arith, c.line_behind-l.ensures.1, c.loop-i.invariant.0), s ∙ c.loop-i.invariant.1)

pub returns : goal.returns
returns c = (line_done c.args.text.now c.loop-i.i _ _ c.loop-i-test.false ∙ c.loop-i.invariant.1, omega (arith, c.loop-i.invariant.0))
