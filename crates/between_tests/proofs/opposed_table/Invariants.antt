-- The table is made up to an entry. Assumes nothing.
use Rattle.std.proofs.Common.{◌≡◌, false, length}
use Rattle.between_search.specs.Tests.{opposed}
use Rattle.between_tests.specs.Tables.{MadeTo, literals_in}
use Rattle.between_tests.proofs.opposed_table.Given as goal

abbrev pub invariant-loop-i : goal.invariant-loop-i
invariant-loop-i l = (length l.table ≡ 36) × MadeTo (opposed (literals_in l.query l.at l.count)) false l.table l.i
