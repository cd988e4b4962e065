use Rattle.std.proofs.Common.{ℕ, ◌≤◌, Bool, ◌&&◌, ◌||◌, sym, ap₂, ◌∙◌, arith}
use lib.Dec.{eqb}
use Rattle.rows.proofs.Selections.{any_end, any_here, any_next}
use Rattle.between_tests.proofs.Laws.{node-read, breaks_begin}
use Rattle.between_tests.proofs.field_breaks.Goals as goal

pub returns-then-w-v : goal.returns-then-w-v
returns-then-w-v c fields o =
    let pre_1 = c.requires.1 in
    let low : c.loop-u.u ≤ 5 = omega (arith, pre_1, c.loop-u-test.true) in
    sym (breaks_begin fields _ _ _ (node-read _ _ _ c.node_of-v.ensures) ∙ c.loop-u.invariant fields o
    ∙ any_here _ _ _ c.loop-u-test.true
    (ap₂ (λ (x : ℕ) (b : Bool). eqb x c.node_of-v.result.0 && b) (sym (node-read _ _ _ c.node_of-w.ensures))
    (ap₂ (λ (x y : Bool). x || y) (sym (o _ _ low pre_1)) (sym (o _ _ pre_1 low))) ∙ c.if-w-v.true))

pub loop-u-preserved : goal.loop-u-preserved
loop-u-preserved c fields o =
    let pre_1 = c.requires.1 in
    let low : c.loop-u.u ≤ 5 = omega (arith, pre_1, c.loop-u-test.true) in
    c.loop-u.invariant fields o ∙ any_next _ _ _ c.loop-u-test.true
    (ap₂ (λ (x : ℕ) (b : Bool). eqb x c.node_of-v.result.0 && b) (sym (node-read _ _ _ c.node_of-w.ensures))
    (ap₂ (λ (x y : Bool). x || y) (sym (o _ _ low pre_1)) (sym (o _ _ pre_1 low))) ∙ c.if-w-v.false)

pub returns : goal.returns
returns c fields o = sym (breaks_begin fields _ _ _ (node-read _ _ _ c.node_of-v.ensures) ∙ c.loop-u.invariant fields o ∙ any_end _ _ _ c.loop-u-test.false)
