-- The characters from this one on are left.
use Rattle.std.proofs.Common.{◌≤◌}
use Rattle.decimal_lines.proofs.Reading.{Scanned}
use Rattle.decimal_lines.proofs.put_numbers.Given as goal

abbrev pub invariant-loop-byte : goal.invariant-loop-byte
invariant-loop-byte l = (l.place ≤ 3) × (l.value ≤ 255) × Scanned l.initial.buffer l.at l.text l.buffer l.to l.place l.value l.begun l.byte-index
