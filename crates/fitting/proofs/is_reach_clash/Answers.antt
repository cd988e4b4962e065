-- Its place is looked at first.
use Rattle.std.proofs.Common.{arith, sym, ◌∙◌}
use Rattle.link_query.proofs.Said.{literal-fits, reachability-said}
use Rattle.fitting.proofs.Clashes.{negated_none, negated_past, negated_here}
use Rattle.fitting.proofs.is_reach_clash.Goals as goal

pub returns-then-i-eq0 : goal.returns-then-i-eq0
returns-then-i-eq0 c = sym (negated_none _ _ _ (reachability-said _ _ c.requires) _ _ c.if-i-eq0.true)

pub returns-then-count-i : goal.returns-then-count-i
returns-then-count-i c = sym (negated_past _ _ _ (reachability-said _ _ c.requires) _ _ c.if-count-i.true)

pub is_held_negated-requires : goal.is_held_negated-requires
is_held_negated-requires c = let d = c.if-i-eq0.false in let l = c.if-count-i.false in literal-fits _ _ _ _ _ (omega arith) c.requires.reach_fit

pub returns : goal.returns
returns c = c.is_held_negated.ensures ∙ negated_here _ _ _ (reachability-said _ _ c.requires) _ _ c.if-i-eq0.false c.if-count-i.false
