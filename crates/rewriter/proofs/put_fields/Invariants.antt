-- The booleans from k on are left.
use Rattle.std.proofs.Common.{◌≡◌, ◌+◌, ◌*◌, drop}
use Rattle.text.proofs.Writing.{Part}
use Rattle.rewriter.specs.Bytes.{field_bytes}
use Rattle.rewriter.proofs.put_fields.Given as goal

abbrev pub invariant-loop-k : goal.invariant-loop-k
invariant-loop-k l =
    Part l.initial.out l.to (field_bytes l.fresh l.booleans) l.out l.next (field_bytes l.fresh (drop (2 * l.k) l.booleans)) × (l.next ≡ l.to + 3 * l.k)
