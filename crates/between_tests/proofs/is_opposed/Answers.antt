use Rattle.std.proofs.Common.{Bool, ◌&&◌, sym, ap₂, ◌∙◌}
use Rattle.rows.proofs.Selections.{any_end, any_here, any_next}
use Rattle.between_tests.proofs.Laws.{opposed_begin}
use Rattle.between_tests.proofs.is_opposed.Goals as goal

pub loop-j-init : goal.loop-j-init
loop-j-init c = opposed_begin _ _ _

pub returns-then-plain-negated : goal.returns-then-plain-negated
returns-then-plain-negated c =
    sym (c.loop-j.invariant ∙ any_here _ _ _ c.loop-j-test.true
    (ap₂ (λ (x y : Bool). x && y) (sym c.has_field-plain.ensures) (sym c.has_field-negated.ensures) ∙ c.if-plain-negated.true))

pub loop-j-preserved : goal.loop-j-preserved
loop-j-preserved c =
    c.loop-j.invariant ∙ any_next _ _ _ c.loop-j-test.true
    (ap₂ (λ (x y : Bool). x && y) (sym c.has_field-plain.ensures) (sym c.has_field-negated.ensures) ∙ c.if-plain-negated.false)

pub returns : goal.returns
returns c = sym (c.loop-j.invariant ∙ any_end _ _ _ c.loop-j-test.false)
