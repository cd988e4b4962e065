-- What is left of the pairs comes out as the whole.
use Rattle.std.proofs.Common.{arith, sym, ◌∙◌}
use Rattle.joins.proofs.Joins.{pairs-count}
use Rattle.checker.proofs.Judging.{head_begin, head_next, head_wrong, head_end}
use Rattle.checker.proofs.check_head.Goals as goal

pub loop-i-init : goal.loop-i-init
loop-i-init c = head_begin _ _ _ _ c.requires.2

pub offset_bounds-pairs-i : goal.offset_bounds-pairs-i
offset_bounds-pairs-i c = omega (arith, c.requires.1, pairs-count c.args.pairs.now)

pub bounds-pairs-i : goal.bounds-pairs-i
bounds-pairs-i c = omega (arith, c.requires.1, pairs-count c.args.pairs.now)

pub bounds-pairs-i-in-loop-i : goal.bounds-pairs-i-in-loop-i
bounds-pairs-i-in-loop-i c = omega (arith, c.requires.1, pairs-count c.args.pairs.now)

pub returns-then-not-is_join : goal.returns-then-not-is_join
returns-then-not-is_join c =
    head_wrong _ _ c.args.pairs.now _ c.loop-i.i _ c.loop-i-test.true c.loop-i.invariant (sym c.is_join.ensures ∙ c.if-not-is_join.true)

pub loop-i-preserved : goal.loop-i-preserved
loop-i-preserved c =
    head_next _ _ c.args.pairs.now _ c.requires.0 c.loop-i.i _ c.loop-i-test.true c.loop-i.invariant (sym c.is_join.ensures ∙ c.if-not-is_join.false)

pub returns : goal.returns
returns c = head_end _ _ c.args.pairs.now _ c.loop-i.i _ (omega arith) c.loop-i.invariant
