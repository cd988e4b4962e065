-- What is left of the row is the whole search; each turn takes its smallest number.
use Rattle.std.proofs.Common.{arith, sym, ap, ◌∙◌}
use Rattle.std.proofs.lemmas.Nat.{and_le_l}
use Rattle.rows.specs.Options.{found_of}
use Rattle.rule_choice.specs.Answers.{place_of}
use Rattle.rule_choice.proofs.Searches.{left_all, left_none, left_pair, left_here, left-next, row_positive}
use Rattle.rule_choice.proofs.scan.Goals as goal

pub loop-y-init : goal.loop-y-init
loop-y-init c = (
  let m = and_le_l c.pair_row.result c.up_to.result in omega arith,
  λ few other. left_all _ few _ _ _ other _ _ _ c.pair_row.ensures c.up_to.ensures,
)

pub in_third-requires : goal.in_third-requires
in_third-requires c =
    let p = left_pair _ c.requires.0 _ _ _ c.requires.2 _ _ _ (sym c.first.ensures ∙ ap found_of c.in-Some.is) (c.loop-y.invariant.1 c.requires.0 c.requires.2) in
    (c.requires.0, c.requires.1, omega arith, c.requires.2, c.requires.3)

pub returns-in-Some-in_third : goal.returns-in-Some-in_third
returns-in-Some-in_third c =
    let f = sym c.first.ensures ∙ ap found_of c.in-Some.is in
    let m = c.loop-y.invariant.1 c.requires.0 c.requires.2 in
    let p = left_pair _ c.requires.0 _ _ _ c.requires.2 _ _ _ f m in
    sym (left_here _ c.requires.0 _ _ _ c.requires.2 _ c.loop-y.left _ (row_positive _ _ f) c.loop-y.invariant.0 f m _
    (sym (c.in_third.ensures _ p.1) ∙ ap place_of c.in-Some-in_third.is))

pub rest-left-requires : goal.rest-left-requires
rest-left-requires c = row_positive _ _ (sym c.first.ensures ∙ ap found_of c.in-Some.is)

pub loop-y-preserved : goal.loop-y-preserved
loop-y-preserved c = (
  let i = c.loop-y.invariant.0 in let r = c.rest-left.ensures.0 in omega arith,
  λ few other.
      let f = sym c.first.ensures ∙ ap found_of c.in-Some.is in
      let m = c.loop-y.invariant.1 few other in
      let p = left_pair _ few _ _ _ other _ _ _ f m in
      left-next _ few _ _ _ other _ _ _ _ (c.rest-left.ensures.1 _ f) m (sym (c.in_third.ensures _ p.1) ∙ ap place_of c.in_default-in_third.is),
)

pub returns : goal.returns
returns c =
    sym (left_none _ c.requires.0 _ _ _ c.requires.2 _ _ (sym c.first.ensures ∙ ap found_of c.in_default.is) (c.loop-y.invariant.1 c.requires.0 c.requires.2))
