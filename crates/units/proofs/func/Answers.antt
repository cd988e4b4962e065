-- What is found in rows whose bits are known is a place where FUNC applies.
use Rattle.std.proofs.Common.{arith}
use Rattle.units.proofs.Places.{placed, lowest_in, lowest_left, func_placed}
use Rattle.units.proofs.func.Goals as goal

pub bounds-no-y : goal.bounds-no-y
bounds-no-y c = let y = lowest_in _ _ c.in-Some.ensures in omega arith

pub offset_bounds-no-y : goal.offset_bounds-no-y
offset_bounds-no-y c = let y = lowest_in _ _ c.in-Some.ensures in omega arith

pub missed-requires : goal.missed-requires
missed-requires c = let y = lowest_in _ _ c.in-Some.ensures in (omega arith, y.0)

pub returns-in-Some-lowest : goal.returns-in-Some-lowest
returns-in-Some-lowest c =
    let g = c.args.graph.now in
    λ n s e. placed n s _ _ _ _ _ _ c.at.ensures
    (func_placed n g.link g.reach s g.by e _ _ _ _ (omega arith) (lowest_in _ _ c.in-Some.ensures) c.missed.ensures (lowest_left _ _ _ c.in-Some-lowest.ensures))
