use Rattle.std.proofs.Common.{true, false, refl, sym, ◌∙◌}
use borrow.Author.Tests.{eq-eqb, ne_eqb}
use Rattle.rows.proofs.Selections.{any_end, any_here, any_next}
use Rattle.between_tests.proofs.Laws.{node-read, fresh_is}
use Rattle.between_tests.proofs.is_fresh.Goals as goal

pub loop-u-init : goal.loop-u-init
loop-u-init c = refl

pub returns-then-w-v : goal.returns-then-w-v
returns-then-w-v c =
    fresh_is _ _ _ true (node-read _ _ _ c.node_of-v.ensures)
    (c.loop-u.invariant ∙ any_here _ _ _ c.loop-u-test.true (eq-eqb _ _ (sym (node-read _ _ _ c.node_of-w.ensures) ∙ c.if-w-v.true)))

pub loop-u-preserved : goal.loop-u-preserved
loop-u-preserved c =
    c.loop-u.invariant ∙ any_next _ _ _ c.loop-u-test.true (ne_eqb _ _ (λ e. c.if-w-v.false (node-read _ _ _ c.node_of-w.ensures ∙ e)))

pub returns : goal.returns
returns c = fresh_is _ _ _ false (node-read _ _ _ c.node_of-v.ensures) (c.loop-u.invariant ∙ any_end _ _ _ c.loop-u-test.false)
