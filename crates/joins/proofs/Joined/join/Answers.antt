-- The lower of the two stays.
use Rattle.std.proofs.Common.{◌≡◌, min, max, sym, ◌∙◌, subst, eqb-true, arith}
use Rattle.std.proofs.lemmas.Bool.{eqb-false}
use Rattle.joins.specs.Pairs.{joined_of, Fits}
use Rattle.joins.proofs.Joins.{join_same, fits_join, join_made, pairs-count}
use Rattle.joins.proofs.Joined.join.Goals as goal

pub returns-then-eq : goal.returns-then-eq
returns-then-eq c = sym (join_same _ _ _ _ (eqb-true _ _ (sym c.eq.ensures ∙ c.if-eq.true)))

pub unite-requires : goal.unite-requires
unite-requires c =
    let lo : c.min.result.0 ≡ min c.args.a.0 c.args.b.0 = grind arith in
    let hi : c.max.result.0 ≡ max c.args.a.0 c.args.b.0 = grind arith in
    let other = eqb-false _ _ (sym c.eq.ensures ∙ c.if-eq.false) in
    let room = fits_join _ (joined_of c.args.self.now) _ _ _ _ other lo hi c.requires.3 in
    omega (arith, room, pairs-count c.args.self.now.pairs)

pub settle-requires : goal.settle-requires
settle-requires c =
    let lo : c.min.result.0 ≡ min c.args.a.0 c.args.b.0 = grind arith in
    let hi : c.max.result.0 ≡ max c.args.a.0 c.args.b.0 = grind arith in
    let other = eqb-false _ _ (sym c.eq.ensures ∙ c.if-eq.false) in
    (c.requires.0, subst Fits (join_made _ (joined_of c.args.self.now) _ _ _ _ other lo hi _ _ c.unite.ensures.pairs c.unite.ensures.facts) c.requires.3)

pub returns : goal.returns
returns c =
    let lo : c.min.result.0 ≡ min c.args.a.0 c.args.b.0 = grind arith in
    let hi : c.max.result.0 ≡ max c.args.a.0 c.args.b.0 = grind arith in
    let other = eqb-false _ _ (sym c.eq.ensures ∙ c.if-eq.false) in
    c.settle.ensures ∙ sym (join_made _ (joined_of c.args.self.now) _ _ _ _ other lo hi _ _ c.unite.ensures.pairs c.unite.ensures.facts)
