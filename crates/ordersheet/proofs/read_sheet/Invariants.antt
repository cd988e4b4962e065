-- No more pairs than a sheet can hold; the lines end.
use Rattle.std.proofs.Common.{◌≤◌}
use Rattle.ordersheet.proofs.read_sheet.Given as goal

abbrev pub invariant-loop-i : goal.invariant-loop-i
invariant-loop-i l =
    (l.count ≤ 28) × (goal.iterator-loop-i).can_next l.i-iterator × (goal.iterator-loop-i).is_finite l.i-iterator
