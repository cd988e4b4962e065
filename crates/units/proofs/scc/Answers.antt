-- What is found in rows whose bits are known is a place where SCC applies.
use Rattle.std.proofs.Common.{arith}
use Rattle.units.proofs.Places.{placed, lowest_in, lowest_left, scc_placed}
use Rattle.units.proofs.scc.Goals as goal

pub returns-in-Some-lowest-2 : goal.returns-in-Some-lowest-2
returns-in-Some-lowest-2 c =
    let g = c.args.graph.now in
    λ n s e. placed n s _ _ _ _ _ _ c.at.ensures
    (scc_placed n g.link g.reach s g.by e _ _ _ _ _ (omega arith) c.both_ways-both.ensures (lowest_left _ _ _ c.in-Some-lowest-2.ensures) c.ahead-out.ensures
    (lowest_in _ _ c.in-Some-lowest.ensures))

pub returns-in-Some-lowest-3 : goal.returns-in-Some-lowest-3
returns-in-Some-lowest-3 c =
    let g = c.args.graph.now in
    λ n s e. placed n s _ _ _ _ _ _ c.at-in-Some-lowest-3.ensures
    (scc_placed n g.link g.reach s g.by e _ _ _ _ _ (omega arith) c.both_ways-both.ensures (lowest_in _ _ c.in-Some.ensures) c.ahead-out.ensures
    (lowest_left _ _ _ c.in-Some-lowest-3.ensures))
