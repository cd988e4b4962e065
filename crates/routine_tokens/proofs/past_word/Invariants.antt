-- The bytes of the word from i on are left.
use Rattle.std.proofs.Common.{◌≡◌, ◌+◌, drop}
use Rattle.routine_tokens.specs.Tokens.{word_length}
use Rattle.routine_tokens.proofs.past_word.Given as goal

abbrev pub invariant-loop-i : goal.invariant-loop-i
invariant-loop-i l = l.i + word_length (drop l.i l.text) ≡ l.at + word_length (drop l.at l.text)
