-- What is left of the terms answers for all. Assumes nothing.
use Rattle.std.proofs.Common.{◌≡◌, ◌+◌, ◌-◌, ◌&&◌, ◌||◌, List}
use lib.Dec.{eqb}
use Rattle.logic.specs.Search.{from, any}
use Rattle.logic.specs.Query.{Literal}
use Rattle.between_search.specs.Tests.{opposed}
use Rattle.between_search.specs.Search.{entry}
use Rattle.between_tests.specs.Tables.{Opposed}
use Rattle.between_tests.proofs.field_breaks.Given as goal

abbrev pub invariant-loop-u : goal.invariant-loop-u
invariant-loop-u l =
    (fields : List Literal) → Opposed l.table fields → any (λ x. eqb (entry l.nodes x) l.v.0 && (opposed fields x l.t.0 || opposed fields l.t.0 x))
    (from (l.t.0 + 1 - 1) 1) ≡ any (λ x. eqb (entry l.nodes x) l.v.0 && (opposed fields x l.t.0 || opposed fields l.t.0 x)) (from (l.t.0 + 1 - l.u) l.u)
