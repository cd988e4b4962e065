-- What is counted and what is left make the whole.
use Rattle.std.proofs.Common.{◌≡◌, ◌+◌, ◌-◌, ◌≤◌}
use Rattle.between_search.specs.Tests.{step_count}
use Rattle.routine_state.specs.States.{link_in}
use Rattle.routine_state.proofs.step_count.Given as goal

abbrev pub invariant-loop-k : goal.invariant-loop-k
invariant-loop-k l = (l.k ≤ l.n) × (step_count (link_in l.state l.i) l.n l.v l.w ≡ l.k + step_count (link_in l.state l.i) (l.n - l.k) l.at l.w)
