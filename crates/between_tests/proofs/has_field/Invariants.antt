-- What is left of the literals answers for all. Assumes nothing.
use Rattle.std.proofs.Common.{◌≡◌}
use Rattle.logic.specs.Search.{any}
use Rattle.query.specs.LaysOut.{literal_in}
use Rattle.query.proofs.Literals.{listed}
use Rattle.between_search.specs.Tests.{says_field, has_field}
use Rattle.between_tests.specs.Tables.{literals_in}
use Rattle.between_tests.proofs.has_field.Given as goal

abbrev pub invariant-loop-i : goal.invariant-loop-i
invariant-loop-i l = has_field (literals_in l.query l.at l.count) l.sign l.j l.t.0 ≡ any (says_field l.sign l.j l.t.0) (listed (literal_in l.query l.at) l.count l.i)
