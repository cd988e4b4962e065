-- The pairs from k on are left.
use Rattle.std.proofs.Common.{◌≡◌, ◌+◌, ◌*◌, map}
use Rattle.logic.specs.Search.{flat_map}
use Rattle.text.proofs.Writing.{Part}
use Rattle.joining.specs.Pairs.{pairs_of}
use Rattle.encoding.specs.QueryBytes.{literal_bytes}
use Rattle.joining.specs.Joined.{pair_literal}
use Rattle.joiner.proofs.Laws.{rest, pair_in}
use Rattle.joiner.proofs.put_pairs.Given as goal

abbrev pub invariant-loop-k : goal.invariant-loop-k
invariant-loop-k l =
    Part l.initial.out l.to (flat_map literal_bytes (map (pair_literal l.n) (pairs_of l.pairs))) l.out l.next
    (rest literal_bytes (λ i. pair_literal l.n (pair_in l.pairs i)) l.count l.k)
    × (l.next ≡ l.to + 3 * l.k)
