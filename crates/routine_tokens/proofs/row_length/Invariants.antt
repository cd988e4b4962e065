-- The row from i on is left.
use Rattle.std.proofs.Common.{◌≡◌, ◌+◌, drop}
use Rattle.routine_tokens.specs.Tokens.{row_length}
use Rattle.routine_tokens.proofs.row_length.Given as goal

abbrev pub invariant-loop-i : goal.invariant-loop-i
invariant-loop-i l = l.i + row_length (drop l.i l.row) ≡ row_length l.row
