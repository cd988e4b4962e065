-- What is left of the path equals the whole.
use Rattle.std.proofs.Common.{◌≡◌, ◌-◌, ◌≤◌}
use Rattle.logic.specs.Shown.{on_path}
use Rattle.completion.specs.Links.{link_of}
use Rattle.completion.proofs.Shown.on_path.Given as goal

abbrev pub invariant-loop-turn : goal.invariant-loop-turn
invariant-loop-turn l = (l.at ≤ 16) × (on_path (link_of l.self.links) l.v.0 l.self.n l.fn.b.0 ≡ on_path (link_of l.self.links) l.v.0 (l.self.n - l._turn) l.at)
