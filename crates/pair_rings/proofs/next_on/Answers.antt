-- What is left of the search equals the whole.
use Rattle.std.proofs.Common.{refl, sym, ◌∙◌, arith}
use Rattle.rows.proofs.Loops.{find_end, find_here, find_next}
use Rattle.pair_rings.proofs.Turns.{next_found, next_missing}
use Rattle.pair_rings.proofs.next_on.Goals as goal

pub loop-r-init : goal.loop-r-init
loop-r-init c = refl

pub is_onward-requires : goal.is_onward-requires
is_onward-requires c = (c.requires.0, c.requires.1, c.requires.2, omega arith)

pub returns-then-is_onward : goal.returns-then-is_onward
returns-then-is_onward c =
    sym (next_found _ _ _ _ _ (c.loop-r.invariant ∙ find_here _ _ _ c.loop-r-test.true (sym c.is_onward.ensures ∙ c.if-is_onward.true)))

pub loop-r-preserved : goal.loop-r-preserved
loop-r-preserved c = c.loop-r.invariant ∙ find_next _ _ _ c.loop-r-test.true (sym c.is_onward.ensures ∙ c.if-is_onward.false)

pub returns : goal.returns
returns c = sym (next_missing _ _ _ _ (c.loop-r.invariant ∙ find_end _ _ _ c.loop-r-test.false))
