-- A plain literal is no clash; of a negated one the fact is looked up through its terms' representatives, by its link.
use Rattle.std.proofs.Common.{◌≡◌, ℕ, refl, sym, ap, ◌∙◌}
use Rattle.logic.specs.Search.{◌and◌}
use Rattle.logic.specs.Facts.{Facts}
use Rattle.facts.specs.Path.{path_of, rep_of}
use Rattle.literal_tests.proofs.is_held_negated.Goals as goal

reached : (s : Facts) {k j a b x y : ℕ} → k ≡ j → a ≡ x → b ≡ y → (s.graph k).reach a b ≡ (s.graph j).reach x y
reached s e f g = λ i. (s.graph (e i)).reach (f i) (g i)

pub returns-then-reach_sign : goal.returns-then-reach_sign
unfolding ◌and◌
returns-then-reach_sign c = rw (sym c.reach_sign.ensures ∙ c.if-reach_sign.true) refl

pub returns : goal.returns
unfolding path_of ◌and◌
returns c =
    rw (sym c.reach_sign.ensures ∙ c.if-reach_sign.false)
    (c.reaches.ensures ∙ reached (path_of c.args.s.now) c.reach_link-k.ensures (c.representative-a.ensures ∙ ap (rep_of _) c.reach_left.ensures)
    (c.representative-b.ensures ∙ ap (rep_of _) c.reach_right.ensures))
