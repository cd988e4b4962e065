-- What is left to search equals the whole.
use Rattle.std.proofs.Common.{◌≡◌, ◌+◌, ◌-◌, not}
use Rattle.logic.specs.Search.{◌and◌, from, find}
use Rattle.logic.specs.Shown.{on_path}
use Rattle.rows.specs.Bits.{bit}
use Rattle.completion.specs.Links.{link_of}
use Rattle.completion.proofs.Shown.other_path.Given as goal

abbrev pub invariant-loop-b : goal.invariant-loop-b
invariant-loop-b l =
    find (λ x. bit l.heads x and not (on_path (link_of l.self.links) l.v.0 l.self.n x)) (from (l.self.n + 1 - 1) 1)
    ≡ find (λ x. bit l.heads x and not (on_path (link_of l.self.links) l.v.0 l.self.n x)) (from (l.self.n + 1 - l.b) l.b)
