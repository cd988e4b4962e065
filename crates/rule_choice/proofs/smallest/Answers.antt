-- What is left to search equals the whole.
use Rattle.std.proofs.Common.{arith, refl, sym, ap, ◌∙◌}
use Rattle.rows.proofs.Loops.{first_end, first_here, first_next}
use Rattle.rule_choice.specs.Answers.{place_of}
use Rattle.rule_choice.specs.Smallest.{in_first}
use Rattle.rule_choice.proofs.smallest.Goals as goal

pub loop-x-init : goal.loop-x-init
unfolding in_first
loop-x-init c = refl

pub returns-in-Some : goal.returns-in-Some
returns-in-Some c = sym (c.loop-x.invariant ∙ first_here _ _ _ _ (omega arith) (sym c.in_second.ensures ∙ ap place_of c.in-Some.is))

pub loop-x-preserved : goal.loop-x-preserved
loop-x-preserved c = c.loop-x.invariant ∙ first_next _ _ _ (omega arith) (sym c.in_second.ensures ∙ ap place_of c.in_default.is)

pub returns : goal.returns
returns c = sym (c.loop-x.invariant ∙ first_end _ _ _ (omega arith))
