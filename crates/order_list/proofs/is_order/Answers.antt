use Rattle.std.proofs.Common.{sym, ◌∙◌}
use Rattle.rows.proofs.Loops.{all_end, all_fails, all_next}
use Rattle.order_list.proofs.Order.{other_length, all_named, named_contained}
use Rattle.order_list.proofs.is_order.Goals as goal

pub returns-then-order-ne8 : goal.returns-then-order-ne8
returns-then-order-ne8 c = sym (other_length _ c.if-order-ne8.true)

pub loop-r-init : goal.loop-r-init
loop-r-init c = all_named _ c.if-order-ne8.false

pub returns-then-not-contains : goal.returns-then-not-contains
returns-then-not-contains c =
    sym
    (c.loop-r.invariant
    ∙ all_fails _ _ _ c.loop-r-test.true (named_contained c.args.order.now _ ∙ sym c.contains.ensures.value ∙ c.if-not-contains.true))

pub loop-r-preserved : goal.loop-r-preserved
loop-r-preserved c =
    c.loop-r.invariant
    ∙ all_next _ _ _ c.loop-r-test.true (named_contained c.args.order.now _ ∙ sym c.contains.ensures.value ∙ c.if-not-contains.false)

pub returns : goal.returns
returns c = sym (c.loop-r.invariant ∙ all_end _ _ _ c.loop-r-test.false)
