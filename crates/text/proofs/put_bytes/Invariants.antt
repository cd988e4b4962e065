-- The bytes from this one on are left.
use Rattle.std.proofs.Common.{drop}
use Rattle.text.proofs.Writing.{Part}
use Rattle.text.proofs.put_bytes.Given as goal

abbrev pub invariant-loop-byte : goal.invariant-loop-byte
invariant-loop-byte l = Part l.initial.buffer l.at l.bytes l.buffer l.to (drop l.byte-index l.bytes)
