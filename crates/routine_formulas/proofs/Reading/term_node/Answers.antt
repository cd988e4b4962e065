-- What is left of the links leads from here to the node. Assumes nothing.
use Rattle.std.proofs.Common.{sym, ◌∙◌}
use Rattle.routine_formulas.proofs.Terms.{term_begin, follow_done, follow_next, follow_end}
use Rattle.routine_formulas.proofs.Reading.term_node.Goals as goal

pub loop-at-init : goal.loop-at-init
loop-at-init c = (c.base_node-v.ensures.1, term_begin _ _ _ _ _ _ c.cell.ensures.0 c.base_node-v.ensures.0)

pub returns-then-i-eq0 : goal.returns-then-i-eq0
returns-then-i-eq0 c = (sym (c.loop-at.invariant.1 ∙ follow_done _ _ _ _ _ c.loop-at-test.true c.cell-i.ensures.0 c.if-i-eq0.true), c.loop-at.invariant.0)

pub loop-at-preserved : goal.loop-at-preserved
loop-at-preserved c = (
  c.link_of-v.ensures.1,
  c.loop-at.invariant.1 ∙ follow_next _ _ _ _ _ _ c.loop-at-test.true c.cell-i.ensures.0 c.if-i-eq0.false c.link_of-v.ensures.0,
)

pub returns : goal.returns
returns c = (sym (c.loop-at.invariant.1 ∙ follow_end _ _ _ _ c.loop-at-test.false), c.loop-at.invariant.0)
