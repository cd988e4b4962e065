-- What is counted and what is left make the whole. Assumes nothing.
use Rattle.std.proofs.Common.{◌≡◌, ◌+◌, ◌-◌, ◌≤◌, false, length, get_or}
use Rattle.logic.specs.Search.{from, select}
use Rattle.heap_nodes.proofs.count_marks.Given as goal

abbrev pub invariant-loop-t : goal.invariant-loop-t
invariant-loop-t l =
    (l.count ≤ l.t)
    × (l.count + length (select (λ x. get_or l.marks x false) (from (l.n + 1 - l.t) l.t)) ≡ length (select (λ x. get_or l.marks x false) (from (l.n + 1 - 0) 0)))
