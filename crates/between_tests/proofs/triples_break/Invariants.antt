-- What is left of the literals answers for all. Assumes nothing.
use Rattle.std.proofs.Common.{◌≡◌, ℕ}
use Rattle.logic.specs.Search.{any}
use Rattle.query.proofs.Literals.{listed}
use Rattle.between_search.specs.Bytes.{triples}
use Rattle.between_search.specs.Tests.{triple_breaks}
use Rattle.between_search.specs.Search.{entry}
use Rattle.between_tests.specs.Tables.{Stepped, triple_in}
use Rattle.between_tests.proofs.triples_break.Given as goal

abbrev pub invariant-loop-i : goal.invariant-loop-i
invariant-loop-i l =
    (link : ℕ → ℕ) → Stepped l.table link → any (triple_breaks link (entry l.nodes) l.t.0) (triples l.bytes) ≡ any
    (triple_breaks link (entry l.nodes) l.t.0) (listed (triple_in l.bytes) l.count l.i)
