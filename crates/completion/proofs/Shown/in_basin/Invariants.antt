-- What is left to search equals the whole.
use Rattle.std.proofs.Common.{◌≡◌, ◌+◌, ◌-◌}
use Rattle.logic.specs.Search.{from, any}
use Rattle.completion.proofs.Choice.{leaves}
use Rattle.completion.proofs.Shown.in_basin.Given as goal

abbrev pub invariant-loop-u : goal.invariant-loop-u
invariant-loop-u l = any (leaves l.self.reach l.v.0) (from (l.self.n + 1 - 1) 1) ≡ any (leaves l.self.reach l.v.0) (from (l.self.n + 1 - l.u) l.u)
