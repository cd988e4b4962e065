-- The bytes from this one on are left.
use Rattle.text.proofs.Writing.{Part}
use Rattle.hex_lines.proofs.Hex.{left}
use Rattle.hex_lines.proofs.put_behind.Given as goal

abbrev pub invariant-loop-byte : goal.invariant-loop-byte
invariant-loop-byte l = Part l.initial.buffer l.at (left l.bytes 0) l.buffer l.to (left l.bytes l.byte-index)
