-- What is left of the literals answers for all. Assumes nothing.
use Rattle.std.proofs.Common.{◌≡◌, ℕ}
use Rattle.logic.specs.Search.{any}
use Rattle.query.specs.LaysOut.{literal_in}
use Rattle.query.proofs.Literals.{listed}
use Rattle.between_search.specs.Tests.{pair_breaks}
use Rattle.between_search.specs.Search.{entry}
use Rattle.between_tests.specs.Tables.{Stepped, literals_in}
use Rattle.between_tests.proofs.pairs_break.Given as goal

abbrev pub invariant-loop-i : goal.invariant-loop-i
invariant-loop-i l =
    (link : ℕ → ℕ) → Stepped l.table link → any (pair_breaks link (entry l.nodes) l.pairs.most l.t.0) (literals_in l.query l.pairs.at l.pairs.count) ≡ any
    (pair_breaks link (entry l.nodes) l.pairs.most l.t.0) (listed (literal_in l.query l.pairs.at) l.pairs.count l.i)
