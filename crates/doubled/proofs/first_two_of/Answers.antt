-- The links in order: the first that has two answers, and none where all were passed.
use Rattle.std.proofs.Common.{sym, ◌∙◌, arith}
use Rattle.logic.specs.Facts.{link_numbers}
use Rattle.rows.proofs.Loops.{first_end, first_here, first_next}
use Rattle.facts.specs.Path.{path_of}
use Rattle.doubled.specs.Doubled.{two_in}
use Rattle.doubled.proofs.Twos.{up_to}
use Rattle.doubled.proofs.first_two_of.Goals as goal

pub loop-k-init : goal.loop-k-init
unfolding two_in link_numbers path_of
loop-k-init c = up_to _ _ _ c.links-k-end.ensures.0

pub returns-in-Some : goal.returns-in-Some
returns-in-Some c = sym (c.loop-k.invariant ∙ first_here _ _ _ _ (omega arith) (sym c.in-Some.ensures))

pub loop-k-preserved : goal.loop-k-preserved
loop-k-preserved c = c.loop-k.invariant ∙ first_next _ _ _ (omega arith) (sym c.in_default.ensures)

pub returns-in_default : goal.returns-in_default
returns-in_default c = sym (c.loop-k.invariant ∙ first_next _ _ _ (omega arith) (sym c.in_default.ensures) ∙ first_end _ _ _ (omega arith))
