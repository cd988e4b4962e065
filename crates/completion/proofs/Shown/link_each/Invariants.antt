-- What is left to link comes out as the whole.
use Rattle.std.proofs.Common.{◌≡◌, ◌+◌, ◌-◌, eqb}
use Rattle.logic.specs.Search.{from, select}
use Rattle.logic.specs.Shown.{link_each}
use Rattle.facts.specs.Path.{rep_of}
use Rattle.completion.specs.Links.{link_of, reach_in}
use Rattle.completion.proofs.Completing.{Linking}
use Rattle.completion.proofs.Shown.link_each.Given as goal

abbrev pub invariant-loop-v : goal.invariant-loop-v
invariant-loop-v l =
    (l.self.n ≡ l.initial.self.n) × (l.self.reach ≡ l.initial.self.reach)
    × Linking l.initial.self.n (reach_in l.initial.self.reach) (rep_of l.rep) l.v
    (link_each l.initial.self.n (reach_in l.initial.self.reach) (link_of l.initial.self.links) (select (λ t. eqb (rep_of l.rep t) t) (from (l.initial.self.n + 1 - 1) 1)))
    l.self.links
