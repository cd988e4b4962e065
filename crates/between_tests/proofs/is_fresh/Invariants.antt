-- What is left of the lower terms answers for all. Assumes nothing.
use Rattle.std.proofs.Common.{◌≡◌, ◌-◌}
use lib.Dec.{eqb}
use Rattle.logic.specs.Search.{from, any}
use Rattle.between_search.specs.Search.{entry}
use Rattle.between_tests.proofs.is_fresh.Given as goal

abbrev pub invariant-loop-u : goal.invariant-loop-u
invariant-loop-u l = any (λ x. eqb (entry l.nodes x) l.v.0) (from (l.fn.t.0 - 1) 1) ≡ any (λ x. eqb (entry l.nodes x) l.v.0) (from (l.fn.t.0 - l.u) l.u)
