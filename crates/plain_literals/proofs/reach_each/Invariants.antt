-- What is left comes out as the whole, and the reachability alone changes.
use Rattle.std.proofs.Common.{◌≡◌, length, Bool, cond}
use Rattle.logic.specs.Facts.{reach_each}
use Rattle.plain_literals.specs.Taken.{path_by}
use Rattle.link_query.specs.Said.{said, reach_in}
use Rattle.plain_literals.proofs.Each.{Left}
use Rattle.plain_literals.proofs.Taken.{Kept}
use Rattle.plain_literals.proofs.reach_each.Given as goal

abbrev pub invariant-loop-i : goal.invariant-loop-i
invariant-loop-i l =
    let layout = l.fn.layout in
    (length l.facts.reach ≡ 51)
    × Kept l.fn.facts l.facts
    × ((single : Bool) → cond single 1 3 ≡ layout.links →
    Left reach_each (said layout l.query).reachability layout.reach_count (reach_in layout.links l.query layout.reach_at) (path_by single l.fn.facts) l.i (path_by single l.facts))
