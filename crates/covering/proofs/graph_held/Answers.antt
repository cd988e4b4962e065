-- Links, then reachability.
use Rattle.facts.specs.Path.{path_of, graph_of}
use Rattle.facts.proofs.Path.{link_few}
use Rattle.covering.proofs.Held.{link_held}
use Rattle.covering.proofs.graph_held.Goals as goal

pub rows_of-link-requires : goal.rows_of-link-requires
rows_of-link-requires c = (c.requires.1.0, link_few c.args.s.now _ c.requires.1)

pub rows_of-other_link-requires : goal.rows_of-other_link-requires
rows_of-other_link-requires c = (c.requires.1.0, link_few c.args.s.now _ c.requires.1)

pub rows_of-reach-requires : goal.rows_of-reach-requires
rows_of-reach-requires c = (c.requires.1.0, link_few c.args.s.now _ c.requires.1)

pub rows_of-other_reach-requires : goal.rows_of-other_reach-requires
rows_of-other_reach-requires c = (c.requires.1.0, link_few c.args.s.now _ c.requires.1)

pub returns : goal.returns
unfolding path_of graph_of
returns c e =
    link_held c.args.w.now c.args.s.now _ c.requires.1.1 c.requires.0.1 _ _ _ _ c.rows_of-link.ensures c.rows_of-reach.ensures
    c.rows_of-other_link.ensures c.rows_of-other_reach.ensures (c.rows_held.ensures c.if-not-rows_held.false, c.rows_held-2.ensures e)
