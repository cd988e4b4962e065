-- What is left of the lengths answers for all.
use Rattle.std.proofs.Common.{refl, sym, ap, ◌∙◌, arith}
use Rattle.logic.specs.Calls.{padded}
use Rattle.rows.proofs.Loops.{first_end, first_here, first_next}
use Rattle.pair_rings.proofs.Turns.{start_small, ring_here, ring-not, shown_some, shown_none}
use Rattle.pair_rings.proofs.shown_ring.Goals as goal

pub follow_ring-requires : goal.follow_ring-requires
follow_ring-requires c = (
  c.requires.0,
  c.requires.1,
  c.loop-k.invariant.0,
  omega (arith, c.loop-k-test.true),
  start_small _ c.loop-k.k _ (sym c.in-Some.ensures),
)

pub returns-in-Some : goal.returns-in-Some
returns-in-Some c = (
  c.follow_ring.ensures.0,
  c.follow_ring.ensures.1
      ∙ ap (padded 8) (sym (shown_some _ _
      (c.loop-k.invariant.1 ∙ first_here _ _ c.loop-k.k _ c.loop-k-test.true (ring_here _ c.loop-k.k _ (sym c.in-Some.ensures))))),
)

pub loop-k-preserved : goal.loop-k-preserved
loop-k-preserved c = (
  omega arith,
  c.loop-k.invariant.1 ∙ first_next _ _ c.loop-k.k c.loop-k-test.true (ring-not _ c.loop-k.k (sym c.in_default.ensures)),
)

pub returns : goal.returns
unfolding padded
returns c = (refl, ap (padded 8) (sym (shown_none _ (c.loop-k.invariant.1 ∙ first_end _ _ c.loop-k.k c.loop-k-test.false))))
