-- What is left to search equals the whole.
use Rattle.std.proofs.Common.{◌≡◌, ◌+◌, ◌-◌}
use Rattle.logic.specs.Search.{from, find}
use Rattle.completion.proofs.Choice.{above}
use Rattle.completion.proofs.Shown.tree_link.Given as goal

abbrev pub invariant-loop-u : goal.invariant-loop-u
invariant-loop-u l = find (above l.self.n l.self.reach l.v.0) (from (l.self.n + 1 - 1) 1) ≡ find (above l.self.n l.self.reach l.v.0) (from (l.self.n + 1 - l.u) l.u)
