-- What is left of the search equals the whole.
use Rattle.std.proofs.Common.{refl, sym, ◌∙◌}
use Rattle.rows.proofs.Loops.{find_end, find_here, find_next}
use Rattle.ordering.specs.Finding.{ring_start}
use Rattle.pair_rings.proofs.ring_start.Goals as goal

pub loop-s-init : goal.loop-s-init
unfolding ring_start
loop-s-init c = refl

pub returns-then-is_led : goal.returns-then-is_led
returns-then-is_led c = sym (c.loop-s.invariant ∙ find_here _ _ _ c.loop-s-test.true (sym c.is_led.ensures ∙ c.if-is_led.true))

pub loop-s-preserved : goal.loop-s-preserved
loop-s-preserved c = c.loop-s.invariant ∙ find_next _ _ _ c.loop-s-test.true (sym c.is_led.ensures ∙ c.if-is_led.false)

pub returns : goal.returns
returns c = sym (c.loop-s.invariant ∙ find_end _ _ _ c.loop-s-test.false)
