-- What is left to search equals the whole.
use Rattle.std.proofs.Common.{arith, sym, ap, ◌∙◌}
use Rattle.query.proofs.Literals.{literals_are}
use Rattle.clash.specs.Answers.{place_of}
use Rattle.clash.proofs.Sections.{paired_begin, paired_here, paired_next, paired_end}
use Rattle.clash.proofs.field_clash.Goals as goal

pub loop-i-init : goal.loop-i-init
loop-i-init c = paired_begin _ _ _ (literals_are _ _ _ c.requires) _ _

pub returns-in-Some : goal.returns-in-Some
returns-in-Some c =
    sym (paired_here _ _ _ (literals_are _ _ _ c.requires) _ _ c.loop-i.i _ c.loop-i-test.true (sym c.field_partner.ensures ∙ ap place_of c.in-Some.is) c.loop-i.invariant)

pub loop-i-preserved : goal.loop-i-preserved
loop-i-preserved c =
    paired_next _ _ _ (literals_are _ _ _ c.requires) _ _ c.loop-i.i c.loop-i-test.true (sym c.field_partner.ensures ∙ ap place_of c.in_default.is) c.loop-i.invariant

pub returns : goal.returns
returns c = sym (paired_end _ _ _ (literals_are _ _ _ c.requires) _ _ c.loop-i.i (omega arith) c.loop-i.invariant)
