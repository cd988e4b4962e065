-- What is left of the fields answers for all. Assumes nothing.
use Rattle.std.proofs.Common.{◌≡◌, ◌-◌, false, true, ◌&&◌}
use Rattle.logic.specs.Search.{from, any}
use Rattle.between_search.specs.Tests.{has_field, opposed}
use Rattle.between_tests.specs.Tables.{literals_in}
use Rattle.between_tests.proofs.is_opposed.Given as goal

abbrev pub invariant-loop-j : goal.invariant-loop-j
invariant-loop-j l =
    opposed (literals_in l.query l.at l.count) l.a.0 l.b.0 ≡ any
    (λ x. has_field (literals_in l.query l.at l.count) true x l.a.0 && has_field (literals_in l.query l.at l.count) false x l.b.0) (from (9 - l.j) l.j)
