-- What is left of the terms answers for all. Assumes nothing.
use Rattle.std.proofs.Common.{◌≡◌, ◌+◌, ◌-◌, not, ◌&&◌}
use lib.Dec.{eqb}
use Rattle.logic.specs.Search.{from, any}
use Rattle.logic.specs.Query.{decode, names_nil}
use Rattle.between_search.specs.Search.{entry}
use Rattle.between_tests.proofs.other_nil.Given as goal

abbrev pub invariant-loop-u : goal.invariant-loop-u
invariant-loop-u l =
    any (λ x. names_nil (decode l.query).entries x && not (eqb (entry l.nodes x) l.v.0)) (from (l.fn.t.0 + 1 - 1) 1) ≡ any
    (λ x. names_nil (decode l.query).entries x && not (eqb (entry l.nodes x) l.v.0)) (from (l.fn.t.0 + 1 - l.u) l.u)
