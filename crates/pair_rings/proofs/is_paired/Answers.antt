-- What is left of the pairs answers for all.
use Rattle.std.proofs.Common.{sym, ap₂, ◌∙◌, ◌&&◌, eqb, arith}
use Rattle.rows.proofs.Selections.{any_end, any_here, any_next}
use Rattle.pair_rings.proofs.Turns.{paired-pairs}
use Rattle.pair_rings.proofs.is_paired.Goals as goal

pub loop-i-init : goal.loop-i-init
loop-i-init c = rw c.count-end.ensures.0 (paired-pairs _ _ _)

pub earlier-requires : goal.earlier-requires
earlier-requires c = omega (arith, c.count-end.ensures.1)

pub later-requires : goal.later-requires
later-requires c = omega (arith, c.count-end.ensures.1)

pub returns-then-from-to : goal.returns-then-from-to
returns-then-from-to c =
    sym (c.loop-i.invariant ∙ any_here _ _ _ c.loop-i-test.true
    (ap₂ (λ x y. eqb x c.args.a && eqb y c.args.b) (sym c.earlier.ensures) (sym c.later.ensures) ∙ c.if-from-to.true))

pub loop-i-preserved : goal.loop-i-preserved
loop-i-preserved c =
    c.loop-i.invariant ∙ any_next _ _ _ c.loop-i-test.true
    (ap₂ (λ x y. eqb x c.args.a && eqb y c.args.b) (sym c.earlier.ensures) (sym c.later.ensures) ∙ c.if-from-to.false)

pub returns : goal.returns
returns c = sym (c.loop-i.invariant ∙ any_end _ _ _ c.loop-i-test.false)
