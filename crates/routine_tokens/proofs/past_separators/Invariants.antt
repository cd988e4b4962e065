-- The separators from i on are left; behind the text there are none.
use Rattle.std.proofs.Common.{◌≡◌, ◌+◌, ◌≤◌, length, drop, false}
use Rattle.routine_tokens.specs.Tokens.{separators}
use Rattle.routine_tokens.proofs.past_separators.Given as goal

abbrev pub invariant-loop-i : goal.invariant-loop-i
invariant-loop-i l =
    (length l.text ≤ l.at → l.i ≡ l.at) × (l.i + separators l.comment (drop l.i l.text) ≡ l.at + separators false (drop l.at l.text))
