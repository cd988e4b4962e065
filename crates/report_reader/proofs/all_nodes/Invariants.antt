-- What is left of the test is the whole. Assumes nothing.
use Rattle.std.proofs.Common.{◌≡◌, ◌-◌, get_or}
use Rattle.logic.specs.Search.{from, all}
use Rattle.logic.specs.Shown.{is_node}
use Rattle.report_reader.proofs.all_nodes.Given as goal

abbrev pub invariant-loop-i : goal.invariant-loop-i
invariant-loop-i l =
    all (λ j. is_node l.m (get_or l.report j 0)) (from (l.end - l.i) l.i) ≡ all (λ j. is_node l.m (get_or l.report j 0)) (from (l.end - l.at) l.at)
