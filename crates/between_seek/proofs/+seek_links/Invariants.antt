-- The links of node j from v on answer for all; the measure of seek_links: the nodes that are left.
use Rattle.std.proofs.Common.{◌≡◌, ◌+◌, ◌-◌}
use Rattle.logic.specs.Search.{from, first_of}
use Rattle.between_seek.specs.Answers.{query_in}
use Rattle.between_seek.proofs.Linking.{linked_from, linked_with}
use Rattle.between_seek.proofs.+seek_links.Given as goal

abbrev pub invariant-loop-v : goal.invariant-loop-v
invariant-loop-v l =
    linked_from (query_in l.base l.between) l.q l.links l.j.0 ≡ first_of (linked_with (query_in l.base l.between) l.q l.links l.j.0) (from (l.v-end - l.v) l.v)

abbrev pub decreases-seek_links : goal.decreases-seek_links
decreases-seek_links l = l.q.m + 1 - l.j.0
