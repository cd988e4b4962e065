-- The branches before i are refuted by lines that are written and counted, or one is not refuted; each call has a step less left.
use Rattle.std.proofs.Common.{◌≡◌, ◌≤◌, length}
use Rattle.logic.specs.Walk.{order_of}
use Rattle.facts.specs.Path.{path_of}
use Rattle.link_query.specs.Said.{said}
use Rattle.rules.specs.Answers.{kind_of}
use Rattle.listing.proofs.Listing.{Going}
use Rattle.listing.proofs.+list.Given as goal

abbrev pub invariant-loop-i : goal.invariant-loop-i
invariant-loop-i l =
    Going (said l.layout l.query) (order_of l.order) l.left (path_of l.goal.facts) l.m.link.0 (kind_of l.m.rule) l.m.x.0 l.m.y.0 l.m.z.0
    l.initial.lines l.initial.written l.i l.lines l.written
    × (l.written ≤ 16001)
    × (length l.lines ≡ length l.initial.lines)

abbrev pub decreases-list : goal.decreases-list
decreases-list l = l.left
