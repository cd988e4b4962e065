-- The literals from k on are left.
use Rattle.std.proofs.Common.{◌≡◌, ◌+◌, ◌*◌, map, take, drop}
use Rattle.logic.specs.Search.{flat_map}
use Rattle.logic.specs.Query.{literals}
use Rattle.text.proofs.Writing.{Part}
use Rattle.encoding.specs.QueryBytes.{literal_bytes}
use Rattle.joining.specs.Joined.{raised}
use Rattle.joiner.proofs.Laws.{rest, raised_at}
use Rattle.joiner.proofs.put_literals.Given as goal

abbrev pub invariant-loop-k : goal.invariant-loop-k
invariant-loop-k l =
    Part l.initial.out l.to (flat_map literal_bytes (map (raised l.by.0 l.by.1) (literals (take (3 * l.count) (drop l.at l.query)))))
    l.out l.next (rest literal_bytes (raised_at l.query l.at l.by.0 l.by.1) l.count l.k)
    × (l.next ≡ l.to + 3 * l.k)
