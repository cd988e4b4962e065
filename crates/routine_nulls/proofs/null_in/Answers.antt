use Rattle.std.proofs.Common.{◌≡◌, ◌+◌, ◌-◌, arith}
use Rattle.routine_nulls.proofs.Laws.{behind_links, at_begin, at_next, null_done, null_here, null_end}
use Rattle.routine_nulls.proofs.null_in.Goals as goal

pub loop-at-init : goal.loop-at-init
loop-at-init c =
    let none : 0 ≡ (c.args.p + 1) - (c.args.p + 1) = omega arith in
    behind_links none (at_begin _ _ _ _ _ c.args.state.now c.cell.ensures.0 c.base_node-v.ensures.0)

pub returns-then-i-eq0 : goal.returns-then-i-eq0
returns-then-i-eq0 c = null_done _ _ _ _ _ _ _ c.loop-at.invariant c.loop-at-test.true c.cell-i.ensures.0 c.if-i-eq0.true

pub returns-then-v-eq1 : goal.returns-then-v-eq1
returns-then-v-eq1 c = null_here _ _ _ _ _ _ _ c.loop-at.invariant c.loop-at-test.true c.cell-i.ensures.0 c.if-i-eq0.false c.if-v-eq1.true

pub loop-at-preserved : goal.loop-at-preserved
loop-at-preserved c =
    let more : (c.loop-at.at - (c.args.p + 1)) + 1 ≡ (c.loop-at.at + 1) - (c.args.p + 1) = omega arith in
    behind_links more
    (at_next _ _ _ _ _ _ _ c.loop-at.invariant c.loop-at-test.true c.cell-i.ensures.0 c.if-i-eq0.false _ c.if-v-eq1.false c.link_of-v.ensures.0)

pub returns : goal.returns
returns c = null_end _ _ _ _ _ _ c.loop-at.invariant c.loop-at-test.false
