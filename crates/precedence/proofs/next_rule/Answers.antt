-- What is left of the search equals the whole.
use Rattle.std.proofs.Common.{refl, sym, ◌∙◌}
use Rattle.rows.proofs.Loops.{find_end, find_here, find_next}
use Rattle.ordering.specs.Finding.{next_rule}
use Rattle.precedence.proofs.next_rule.Goals as goal

pub loop-r-init : goal.loop-r-init
unfolding next_rule
loop-r-init c = refl

pub returns-then-is_ready : goal.returns-then-is_ready
returns-then-is_ready c = sym (c.loop-r.invariant ∙ find_here _ _ _ c.loop-r-test.true (sym c.is_ready.ensures ∙ c.if-is_ready.true))

pub loop-r-preserved : goal.loop-r-preserved
loop-r-preserved c = c.loop-r.invariant ∙ find_next _ _ _ c.loop-r-test.true (sym c.is_ready.ensures ∙ c.if-is_ready.false)

pub returns : goal.returns
returns c = sym (c.loop-r.invariant ∙ find_end _ _ _ c.loop-r-test.false)
