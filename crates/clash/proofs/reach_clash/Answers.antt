-- What is left to search equals the whole.
use Rattle.std.proofs.Common.{arith, sym, ◌∙◌}
use Rattle.link_query.proofs.Said.{reachability-said}
use Rattle.clash.proofs.Sections.{alone_begin, alone_here, alone_next, alone_end}
use Rattle.clash.proofs.reach_clash.Goals as goal

pub loop-i-init : goal.loop-i-init
loop-i-init c = alone_begin _ _ _ (reachability-said _ _ c.requires) _ _

pub returns-then-is_held_negated : goal.returns-then-is_held_negated
returns-then-is_held_negated c =
    sym (alone_here _ _ _ (reachability-said _ _ c.requires) _ _ c.loop-i.i (omega arith) (sym c.is_held_negated.ensures ∙ c.if-is_held_negated.true) c.loop-i.invariant)

pub loop-i-preserved : goal.loop-i-preserved
loop-i-preserved c =
    alone_next _ _ _ (reachability-said _ _ c.requires) _ _ c.loop-i.i (omega arith) (sym c.is_held_negated.ensures ∙ c.if-is_held_negated.false) c.loop-i.invariant

pub returns : goal.returns
returns c = sym (alone_end _ _ _ (reachability-said _ _ c.requires) _ _ c.loop-i.i (omega arith) c.loop-i.invariant)
