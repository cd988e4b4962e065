use Rattle.std.proofs.Common.{sym, ◌∙◌, arith}
use Rattle.between_tests.proofs.Laws.{steps_begin, steps-here, steps_next, steps_end}
use Rattle.between_tests.proofs.step_count.Goals as goal

pub loop-k-init : goal.loop-k-init
loop-k-init c = (c.requires.1, steps_begin _ _ _)

pub returns-then-at-w : goal.returns-then-at-w
returns-then-at-w c = (sym (c.loop-k.invariant.1 ∙ steps-here _ _ _ _ c.loop-k-test.true c.if-at-w.true), omega arith)

pub loop-k-preserved : goal.loop-k-preserved
loop-k-preserved c = (
  rw c.link_of-at.ensures (c.requires.0 c.loop-k.at.0),
  c.loop-k.invariant.1 ∙ steps_next _ _ _ _ _ c.loop-k-test.true c.if-at-w.false c.link_of-at.ensures,
)

pub returns : goal.returns
returns c = (sym (c.loop-k.invariant.1 ∙ steps_end _ _ _ _ (omega arith) (omega arith)), omega arith)
