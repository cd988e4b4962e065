-- What is left to search equals the whole.
use Rattle.std.proofs.Common.{◌≡◌, ◌+◌, ◌-◌}
use Rattle.logic.specs.Search.{from, first_of}
use Rattle.logic.specs.Facts.{first_two, successors}
use Rattle.facts.specs.Path.{links_by}
use Rattle.doubled.specs.Doubled.{two_in}
use Rattle.doubled.proofs.first_two_of.Given as goal

abbrev pub invariant-loop-k : goal.invariant-loop-k
invariant-loop-k l =
    two_in l.n l.s.single l.s.link l.t.0 ≡ first_of (λ j. first_two (successors l.n (links_by l.s.link j) l.t.0)) (from (l.k-end + 1 - l.k) l.k)
