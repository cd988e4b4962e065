-- What is found off the round of x is a place where CYCLE applies.
use Rattle.std.proofs.Common.{arith}
use Rattle.units.proofs.Places.{placed, cycle_placed}
use Rattle.units.proofs.cycle.Goals as goal

pub returns-in-Some-cycle_at : goal.returns-in-Some-cycle_at
returns-in-Some-cycle_at c =
    let g = c.args.graph.now in
    let round = c.in-Some.ensures in
    λ s e. placed c.args.n s _ _ _ _ _ _ c.at.ensures
    (cycle_placed c.args.n g.link g.reach s g.by e _ _ _ _ c.requires (omega arith) round.steps_within round.off_round c.in-Some-cycle_at.ensures)
