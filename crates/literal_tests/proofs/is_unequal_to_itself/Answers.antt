-- A plain literal is no clash; of a negated one the representatives of its terms are compared.
use Rattle.std.proofs.Common.{sym, ap, ap₂, ◌∙◌, eqb}
use Rattle.logic.specs.Search.{◌and◌}
use Rattle.facts.specs.Path.{path_of, rep_of}
use Rattle.literal_tests.proofs.is_unequal_to_itself.Goals as goal

pub returns-then-not-sign : goal.returns-then-not-sign
unfolding path_of ◌and◌
returns-then-not-sign c =
    rw (sym c.sign.ensures ∙ c.if-not-sign.true)
    (c.eq.ensures ∙ ap₂ eqb (c.representative.ensures ∙ ap (rep_of _) c.left.ensures) (c.representative-then-not-sign.ensures ∙ ap (rep_of _) c.right.ensures))

pub returns-else-not-sign : goal.returns-else-not-sign
unfolding ◌and◌
returns-else-not-sign c = rw (sym c.sign.ensures ∙ c.if-not-sign.false, c.if-not-sign.false)
