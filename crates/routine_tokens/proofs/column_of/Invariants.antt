-- The bytes from i to the place are left.
use Rattle.std.proofs.Common.{◌≡◌, ◌+◌, ◌-◌, ◌≤◌, drop}
use Rattle.routine_tokens.specs.Tokens.{column_from, column_of}
use Rattle.routine_tokens.proofs.column_of.Given as goal

abbrev pub invariant-loop-i : goal.invariant-loop-i
invariant-loop-i l = (l.column ≤ l.i + 1) × (column_from l.column (l.place - l.i) (drop l.i l.text) ≡ column_of l.text l.place)
