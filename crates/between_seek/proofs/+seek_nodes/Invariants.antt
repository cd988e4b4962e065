-- The nodes from v on answer for all; the measure of seek_nodes: the terms that are left.
use Rattle.std.proofs.Common.{◌≡◌, ◌+◌, ◌-◌}
use Rattle.logic.specs.Search.{from, first_of}
use Rattle.between_seek.specs.Answers.{query_in}
use Rattle.between_seek.proofs.Naming.{found_from, found_with}
use Rattle.between_seek.proofs.+seek_nodes.Given as goal

abbrev pub invariant-loop-v : goal.invariant-loop-v
invariant-loop-v l =
    found_from (query_in l.base l.between) l.h l.nodes l.t.0 ≡ first_of (found_with (query_in l.base l.between) l.h l.nodes l.t.0) (from (l.v-end - l.v) l.v)

abbrev pub decreases-seek_nodes : goal.decreases-seek_nodes
decreases-seek_nodes l = l.h.q.l.terms + 1 - l.t.0
