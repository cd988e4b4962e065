-- What is counted and what is left make the whole. Assumes nothing.
use Rattle.std.proofs.Common.{arith, ◌∙◌}
use Rattle.routine_state.proofs.Laws.{steps_whole, steps-here, steps_next, steps_end}
use Rattle.routine_state.proofs.step_count.Goals as goal

pub returns-then-at-w : goal.returns-then-at-w
returns-then-at-w c = (
  steps_whole _ _ _ _ _ _ c.size_of-n.ensures.0 (c.loop-k.invariant.1 ∙ steps-here _ _ _ _ _ c.loop-k-test.true c.if-at-w.true),
  omega (arith, c.size_of-n.ensures.1, c.loop-k-test.true),
)

pub loop-k-preserved : goal.loop-k-preserved
loop-k-preserved c = (
  omega (arith, c.loop-k-test.true),
  c.loop-k.invariant.1 ∙ steps_next _ _ _ _ _ _ c.loop-k-test.true c.if-at-w.false c.link_of-at.ensures.0,
)

pub returns : goal.returns
returns c = (
  steps_whole _ _ _ _ _ _ c.size_of-n.ensures.0 (c.loop-k.invariant.1 ∙ steps_end _ _ _ _ _ c.loop-k-test.false c.loop-k.invariant.0),
  c.size_of-n.ensures.1,
)
