-- Each test that fails says no; else the representatives are compared.
use Rattle.std.proofs.Common.{sym, ap, ◌∙◌, eqb, true≢false}
use Rattle.logic.specs.Search.{◌and◌}
use Rattle.facts.specs.Path.{path_of, rep_of}
use Rattle.literal_tests.proofs.is_field_partner.Goals as goal
use Rattle.literal_tests.proofs.is_field_partner.Goals.{then-sign, else-sign}

pub returns-then-field : goal.returns-then-field
unfolding path_of ◌and◌
returns-then-field c =
    elim c.if-sign.branch [
      | then-sign w ↦
          rw (sym c.sign.ensures ∙ w.if-sign.true, sym (ap (eqb _) w.field.ensures) ∙ sym w.value-is ∙ c.if-field.true)
          (c.eq.ensures ∙ ap (eqb _) (c.representative.ensures ∙ ap (rep_of _) c.right.ensures))
      | else-sign w ↦ absurd (true≢false (sym c.if-field.true ∙ w.value-is ∙ w.if-sign.false))
    ]

pub returns-else-field : goal.returns-else-field
unfolding ◌and◌
returns-else-field c =
    elim c.if-sign.branch [
      | then-sign w ↦
          rw (sym c.sign.ensures ∙ w.if-sign.true, sym (ap (eqb _) w.field.ensures) ∙ sym w.value-is ∙ c.if-field.false)
          c.if-field.false
      | else-sign w ↦ rw (sym c.sign.ensures ∙ w.if-sign.false) c.if-field.false
    ]
