-- The places are looked at first, and the sign.
use Rattle.std.proofs.Common.{ℕ, ◌-◌, arith, sym, ap, ◌∙◌, eqb}
use Rattle.logic.specs.Search.{◌and◌}
use Rattle.query.specs.LaysOut.{literal_in}
use Rattle.query.proofs.Literals.{literals_are}
use Rattle.facts.specs.Path.{path_of}
use Rattle.literal_tests.specs.Tests.{same_field}
use Rattle.fitting.proofs.Clashes.{negated_none, negated_past, pair-plain, pair-none, pair_past, pair_here}
use Rattle.fitting.proofs.is_field_clash.Goals as goal

pub returns-then-i-eq0 : goal.returns-then-i-eq0
returns-then-i-eq0 c = sym (negated_none _ _ _ (literals_are _ _ _ c.requires) _ _ c.if-i-eq0.true)

pub returns-then-count-i : goal.returns-then-count-i
returns-then-count-i c = sym (negated_past _ _ _ (literals_are _ _ _ c.requires) _ _ c.if-count-i.true)

pub returns-then-sign : goal.returns-then-sign
returns-then-sign c =
    pair-plain _ _ _ (literals_are _ _ _ c.requires) (same_field (path_of c.args.s.now).rep) _ _ c.if-i-eq0.false c.if-count-i.false
    (sym c.sign.ensures ∙ c.if-sign.true)

pub returns-then-j-eq0 : goal.returns-then-j-eq0
returns-then-j-eq0 c =
    pair-none _ _ _ (literals_are _ _ _ c.requires) (same_field (path_of c.args.s.now).rep) _ _ c.if-i-eq0.false c.if-count-i.false c.if-j-eq0.true

pub returns-then-count-j : goal.returns-then-count-j
returns-then-count-j c =
    pair_past _ _ _ (literals_are _ _ _ c.requires) (same_field (path_of c.args.s.now).rep) _ _ c.if-i-eq0.false c.if-count-i.false c.if-count-j.true

pub returns : goal.returns
returns c =
    let a = c.args in
    let rep = (path_of a.s.now).rep in
    let other = literal_in a.query.now a.at (a.j - 1) in
    let term = c.representative-term.ensures ∙ ap rep c.right.ensures in
    c.is_field_partner.ensures
    ∙ ap (λ (f : ℕ). other.plain and (eqb f other.left and eqb c.representative-term.result.0 (rep other.right))) c.field-field.ensures
    ∙ ap (λ (t : ℕ). other.plain and (eqb (literal_in a.query.now a.at (a.i - 1)).left other.left and eqb t (rep other.right))) term
    ∙ pair_here _ _ _ (literals_are _ _ _ c.requires) (same_field rep) _ _ c.if-i-eq0.false c.if-count-i.false (sym c.sign.ensures ∙ c.if-sign.false)
    c.if-j-eq0.false c.if-count-j.false
