-- What is left to settle comes out as the whole.
use Rattle.std.proofs.Common.{◌≡◌, ◌-◌}
use Rattle.logic.specs.Facts.{and_then, settle}
use Rattle.joins.specs.Pairs.{joined_of}
use Rattle.joins.proofs.Joined.settle.Given as goal

abbrev pub invariant-loop-turn : goal.invariant-loop-turn
invariant-loop-turn l = and_then (joined_of l.initial.self) (settle l.n l.n) ≡ and_then (joined_of l.self) (settle l.n (l.n - l._turn))
