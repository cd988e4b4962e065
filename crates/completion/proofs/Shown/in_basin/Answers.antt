-- A term that v reaches and that does not reach v back is looked for.
use Rattle.std.proofs.Common.{not, ◌&&◌, sym, ap, ap₂, ◌∙◌, arith}
use Rattle.rows.proofs.Selections.{any_end, any_here, any_next}
use Rattle.completion.proofs.Choice.{basin_search}
use Rattle.completion.proofs.Shown.in_basin.Goals as goal

pub returns-then-reached-back : goal.returns-then-reached-back
returns-then-reached-back c =
    let here = ap₂ (λ a b. a && not b) (sym c.holds-reached.ensures) (sym c.holds-back.ensures) ∙ c.if-reached-back.true in
    sym (basin_search _ _ _ ∙ ap not (c.loop-u.invariant ∙ any_here _ _ _ (omega arith) here))

pub loop-u-preserved : goal.loop-u-preserved
loop-u-preserved c =
    c.loop-u.invariant ∙ any_next _ _ _ (omega arith) (ap₂ (λ a b. a && not b) (sym c.holds-reached.ensures) (sym c.holds-back.ensures) ∙ c.if-reached-back.false)

pub returns : goal.returns
returns c = sym (basin_search _ _ _ ∙ ap not (c.loop-u.invariant ∙ any_end _ _ _ (omega arith)))

pub returns-else-reached-back : goal.returns-else-reached-back
returns-else-reached-back c =
    let other = ap₂ (λ a b. a && not b) (sym c.holds-reached.ensures) (sym c.holds-back.ensures) ∙ c.if-reached-back.false in
    sym (basin_search _ _ _ ∙ ap not (c.loop-u.invariant ∙ any_next _ _ _ (omega arith) other ∙ any_end _ _ _ (omega arith)))
