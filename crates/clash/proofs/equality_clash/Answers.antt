-- What is left to search equals the whole.
use Rattle.std.proofs.Common.{arith, sym, ◌∙◌}
use Rattle.query.proofs.Literals.{literals_are}
use Rattle.clash.proofs.Sections.{alone_begin, alone_here, alone_next, alone_end}
use Rattle.clash.proofs.equality_clash.Goals as goal

pub loop-i-init : goal.loop-i-init
loop-i-init c = alone_begin _ _ _ (literals_are _ _ _ c.requires) _ _

pub returns-then-is_unequal_to_itself : goal.returns-then-is_unequal_to_itself
returns-then-is_unequal_to_itself c =
    sym (alone_here _ _ _ (literals_are _ _ _ c.requires) _ _ c.loop-i.i (omega arith) (sym c.is_unequal_to_itself.ensures ∙ c.if-is_unequal_to_itself.true) c.loop-i.invariant)

pub loop-i-preserved : goal.loop-i-preserved
loop-i-preserved c =
    alone_next _ _ _ (literals_are _ _ _ c.requires) _ _ c.loop-i.i (omega arith) (sym c.is_unequal_to_itself.ensures ∙ c.if-is_unequal_to_itself.false) c.loop-i.invariant

pub returns : goal.returns
returns c = sym (alone_end _ _ _ (literals_are _ _ _ c.requires) _ _ c.loop-i.i (omega arith) c.loop-i.invariant)
