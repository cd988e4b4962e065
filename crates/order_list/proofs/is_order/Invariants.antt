use Rattle.std.proofs.Common.{◌≡◌, ◌-◌}
use Rattle.logic.specs.Search.{from, all}
use Rattle.logic.specs.Query.{is_order}
use Rattle.order_list.proofs.Order.{named}
use Rattle.order_list.proofs.is_order.Given as goal

abbrev pub invariant-loop-r : goal.invariant-loop-r
invariant-loop-r l = is_order l.order ≡ all (named l.order) (from (9 - l.r-counter) l.r-counter)
