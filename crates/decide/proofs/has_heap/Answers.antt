-- What the strategies find out, or else plain steps without a limit.
use mathlib.Core.Path.{sym, ◌∙◌}
use Rattle.theory.proofs.Calls.Decision.{reachable_known}
use Rattle.decide.proofs.Decision.{walked_open}
use Rattle.decide.proofs.has_heap.Goals as goal

pub in_turn-requires : goal.in_turn-requires
in_turn-requires c = let p = c.requires in (p.0, p.1, reachable_known _ p.1 _ p.3)

pub plain-kind-requires : goal.plain-kind-requires
plain-kind-requires c = let p = c.requires in (p.0, p.1, p.2, reachable_known _ p.1 _ p.3, p.4)

pub returns-else-is_refuted : goal.returns-else-is_refuted
returns-else-is_refuted c =
    let p = c.requires in
    walked_open p.1 c.args.order.now p.2 _ _ p.3 p.4 _ _ c.plain-kind.ensures.walks (sym c.is_refuted.ensures ∙ c.if-is_refuted.false)
