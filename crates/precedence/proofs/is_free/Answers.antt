-- What is left of the pairs answers for all.
use Rattle.std.proofs.Common.{sym, ap, ap₂, ◌∙◌, ◌&&◌, not, eqb, arith}
use Rattle.logic.specs.Search.{any}
use Rattle.rows.proofs.Loops.{all_end, all_fails, all_next}
use Rattle.precedence.proofs.Turns.{all-pairs, free_test, placed_by}
use Rattle.precedence.proofs.is_free.Goals as goal

pub loop-i-init : goal.loop-i-init
loop-i-init c = rw c.count-end.ensures.0 (all-pairs _ _)

pub later-requires : goal.later-requires
later-requires c = omega (arith, c.count-end.ensures.1)

pub earlier-earlier-requires : goal.earlier-earlier-requires
earlier-earlier-requires c = omega (arith, c.count-end.ensures.1)

pub returns-then-here-before : goal.returns-then-here-before
returns-then-here-before c =
    let placed = c.args.placed.now in
    sym (c.loop-i.invariant ∙ all_fails _ _ _ c.loop-i-test.true
    (free_test placed c.args.r _ _
    (ap₂ (λ x y. eqb x c.args.r && not y) (sym c.later.ensures)
    (ap (λ x. any (eqb x) placed) (sym c.earlier-earlier.ensures) ∙ sym (c.contains-before.ensures.value ∙ placed_by _ placed)) ∙ c.if-here-before.true)))

pub loop-i-preserved : goal.loop-i-preserved
loop-i-preserved c =
    let placed = c.args.placed.now in
    c.loop-i.invariant ∙ all_next _ _ _ c.loop-i-test.true
    (free_test placed c.args.r _ _
    (ap₂ (λ x y. eqb x c.args.r && not y) (sym c.later.ensures)
    (ap (λ x. any (eqb x) placed) (sym c.earlier-earlier.ensures) ∙ sym (c.contains-before.ensures.value ∙ placed_by _ placed)) ∙ c.if-here-before.false))

pub returns : goal.returns
returns c = sym (c.loop-i.invariant ∙ all_end _ _ _ c.loop-i-test.false)
