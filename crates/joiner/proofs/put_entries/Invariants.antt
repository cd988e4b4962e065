-- The entries from t on are left.
use Rattle.std.proofs.Common.{◌≡◌, ◌+◌, map, take, drop}
use Rattle.text.proofs.Writing.{Part}
use Rattle.joining.specs.Joined.{raised_entry}
use Rattle.joiner.proofs.Laws.{one, rest, entry_at}
use Rattle.joiner.proofs.put_entries.Given as goal

abbrev pub invariant-loop-t : goal.invariant-loop-t
invariant-loop-t l =
    Part l.initial.out l.to (map (raised_entry l.n) (take l.count (drop 1 l.query))) l.out l.next (rest one (entry_at l.query l.n) l.count l.t)
    × (l.next ≡ l.to + l.t)
