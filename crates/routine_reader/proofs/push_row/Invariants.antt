-- The numbers behind those that are pushed are left.
use Rattle.std.proofs.Common.{◌≡◌, ◌+◌, ◌≤◌, drop}
use Rattle.routine_reader.specs.Rows.{row}
use Rattle.routine_reader.specs.Stack.{stack_of, pushed}
use Rattle.routine_reader.proofs.push_row.Given as goal

abbrev pub invariant-loop-c : goal.invariant-loop-c
invariant-loop-c l =
    (l.to ≤ l.height + l.c-index)
    × (pushed (drop l.c-index (row l.j)) (stack_of l.stack l.to) ≡ pushed (row l.j) (stack_of l.initial.stack l.height))
