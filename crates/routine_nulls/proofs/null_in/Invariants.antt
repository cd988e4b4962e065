-- The walk is behind the links before `at`.
use Rattle.std.proofs.Common.{◌-◌}
use Rattle.routine_state.specs.States.{state_in}
use Rattle.routine_nulls.proofs.Laws.{At}
use Rattle.routine_nulls.proofs.null_in.Given as goal

abbrev pub invariant-loop-at : goal.invariant-loop-at
invariant-loop-at l = At (state_in l.state) l.table l.p (l.at - l.first) l.at l.v
