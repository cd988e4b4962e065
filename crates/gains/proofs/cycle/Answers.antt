-- Each place that is offered is off the round of its x.
use Rattle.std.proofs.Common.{◌∙◌, arith}
use Rattle.units.proofs.Places.{placed, lowest_in, cycle_placed}
use Rattle.gains.proofs.Keeps.{kept_same, kept_better}
use Rattle.gains.proofs.cycle.Goals as goal
use Rattle.gains.proofs.cycle.Goals.{in-Some-lowest, in_default-lowest}

pub loop-x-preserved : goal.loop-x-preserved
loop-x-preserved c =
    λ s e p.
    let n = c.args.n in
    let g = c.args.graph.now in
    let h = c.loop-x.invariant s e p in
    let round = c.in-Some.ensures in
    elim c.match-lowest.branch [
      | in-Some-lowest w ↦
          kept_better n s _ _ _ _ (w.best-is ∙ w.offer.ensures) h
          (placed n s _ _ _ _ _ _ w.at.ensures
          (cycle_placed n g.link g.reach s g.by e _ _ _ _ c.requires (omega arith) round.steps_within round.off_round (lowest_in _ _ w.in-Some-lowest.ensures)))
      | in_default-lowest w ↦ kept_same n s _ _ w.best-is h
    ]
