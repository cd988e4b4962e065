-- What is left of the test is the whole. Assumes nothing.
use Rattle.std.proofs.Common.{◌≡◌, ◌-◌, length, get_or}
use lib.Dec.{eqb}
use Rattle.logic.specs.Search.{from, all}
use Rattle.report_reader.proofs.all_zero.Given as goal

abbrev pub invariant-loop-i : goal.invariant-loop-i
invariant-loop-i l =
    all (λ j. eqb (get_or l.report j 0) 0) (from (length l.report - l.i) l.i) ≡ all (λ j. eqb (get_or l.report j 0) 0) (from (length l.report - l.at) l.at)
