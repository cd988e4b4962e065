-- The bytes from i to the place are left.
use Rattle.std.proofs.Common.{◌≡◌, ◌+◌, ◌-◌, ◌≤◌, drop}
use Rattle.routine_tokens.specs.Tokens.{line_from}
use Rattle.routine_tokens.proofs.line_from.Given as goal

abbrev pub invariant-loop-i : goal.invariant-loop-i
invariant-loop-i l = (l.l ≤ l.i + 1) × (line_from l.l (l.to - l.i) (drop l.i l.text) ≡ line_from l.line (l.to - l.from) (drop l.from l.text))
