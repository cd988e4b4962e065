-- The terms from the next on are left.
use Rattle.std.proofs.Common.{◌≡◌, ◌+◌, ◌*◌, drop}
use Rattle.logic.specs.Search.{flat_map}
use Rattle.text.proofs.Writing.{Part}
use Rattle.link_rewriting.specs.LinkedQuery.{entry_bytes}
use Rattle.link_rewriter.proofs.put_entries.Given as goal

abbrev pub invariant-loop-byte : goal.invariant-loop-byte
invariant-loop-byte l =
    Part l.initial.out l.to (flat_map entry_bytes l.terms) l.out l.next (flat_map entry_bytes (drop l.byte-index l.terms)) × (l.next ≡ l.to + 2 * l.byte-index)
