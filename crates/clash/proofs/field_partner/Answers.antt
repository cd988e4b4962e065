-- Only a negated literal has a partner; what is left to search equals the whole.
use Rattle.std.proofs.Common.{arith, sym, ap, ◌∙◌}
use Rattle.facts.specs.Path.{path_of, rep_of}
use Rattle.query.proofs.Literals.{literals_are}
use Rattle.clash.proofs.Sections.{partner_begin, partner-plain, partner_here, partner_next, partner_end}
use Rattle.clash.proofs.field_partner.Goals as goal

pub returns-then-sign : goal.returns-then-sign
returns-then-sign c = sym (partner-plain _ _ _ (literals_are _ _ _ c.requires.0) _ _ c.requires.1 (sym c.sign.ensures ∙ c.if-sign.true))

pub loop-j-init : goal.loop-j-init
loop-j-init c = partner_begin _ _ _ (literals_are _ _ _ c.requires.0) _ _ c.requires.1

pub returns-then-is_field_partner : goal.returns-then-is_field_partner
unfolding path_of
returns-then-is_field_partner c =
    sym (partner_here _ _ _ (literals_are _ _ _ c.requires.0) _ _ c.requires.1 c.loop-j.j (omega arith) (sym c.sign.ensures ∙ c.if-sign.false)
    (sym (rw (c.field-field.ensures, c.representative-term.ensures ∙ ap (rep_of _) c.right.ensures) at c.is_field_partner.ensures)
    ∙ c.if-is_field_partner.true) c.loop-j.invariant)

pub loop-j-preserved : goal.loop-j-preserved
unfolding path_of
loop-j-preserved c =
    partner_next _ _ _ (literals_are _ _ _ c.requires.0) _ _ c.requires.1 c.loop-j.j (omega arith) (sym c.sign.ensures ∙ c.if-sign.false)
    (sym (rw (c.field-field.ensures, c.representative-term.ensures ∙ ap (rep_of _) c.right.ensures) at c.is_field_partner.ensures)
    ∙ c.if-is_field_partner.false) c.loop-j.invariant

pub returns : goal.returns
returns c = sym (partner_end _ _ _ (literals_are _ _ _ c.requires.0) _ _ c.requires.1 c.loop-j.j (omega arith) c.loop-j.invariant)
