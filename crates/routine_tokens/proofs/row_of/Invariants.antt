-- The rows from k on are left.
use Rattle.std.proofs.Common.{◌≡◌, ◌+◌, ◌*◌, ◌-◌, drop}
use Rattle.routine_tokens.specs.Tokens.{row_of}
use Rattle.routine_tokens.proofs.row_of.Given as goal

abbrev pub invariant-loop-k : goal.invariant-loop-k
invariant-loop-k l = l.k + row_of (l.count - l.k) l.whole l.bytes (drop (10 * l.k) l.table) ≡ row_of l.count l.whole l.bytes l.table
