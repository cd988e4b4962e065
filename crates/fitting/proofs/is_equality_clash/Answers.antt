-- Its place is looked at first.
use Rattle.std.proofs.Common.{arith, sym, ◌∙◌}
use Rattle.query.proofs.Literals.{literals_are}
use Rattle.fitting.proofs.Clashes.{negated_none, negated_past, negated_here}
use Rattle.fitting.proofs.is_equality_clash.Goals as goal

pub returns-then-i-eq0 : goal.returns-then-i-eq0
returns-then-i-eq0 c = sym (negated_none _ _ _ (literals_are _ _ _ c.requires) _ _ c.if-i-eq0.true)

pub returns-then-count-i : goal.returns-then-count-i
returns-then-count-i c = sym (negated_past _ _ _ (literals_are _ _ _ c.requires) _ _ c.if-count-i.true)

pub returns : goal.returns
returns c = c.is_unequal_to_itself.ensures ∙ negated_here _ _ _ (literals_are _ _ _ c.requires) _ _ c.if-i-eq0.false c.if-count-i.false
