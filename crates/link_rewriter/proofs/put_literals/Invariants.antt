-- The literals from k on are left.
use Rattle.std.proofs.Common.{◌≡◌, ◌+◌, ◌*◌, drop}
use Rattle.text.proofs.Writing.{Part}
use Rattle.link_rewriter.specs.Bytes.{with_links}
use Rattle.link_rewriter.proofs.put_literals.Given as goal

abbrev pub invariant-loop-k : goal.invariant-loop-k
invariant-loop-k l =
    Part l.initial.out l.to (with_links l.literals) l.out l.next (with_links (drop (3 * l.k) l.literals)) × (l.next ≡ l.to + 4 * l.k)
