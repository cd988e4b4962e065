-- Terms, and then link by link.
use Rattle.std.proofs.Common.{◌+◌, arith}
use Rattle.facts.specs.Path.{path_of}
use Rattle.covering.proofs.Held.{below_more, links-none, links-all}
use Rattle.covering.proofs.covers.Goals as goal

pub loop-k-init : goal.loop-k-init
loop-k-init c = links-none c.args.w.now c.args.s.now

pub loop-k-preserved : goal.loop-k-preserved
unfolding path_of
loop-k-preserved c = below_more _ _ c.loop-k.invariant (c.graph_held.ensures c.if-not-graph_held.false)

pub returns-else-not-graph_held : goal.returns-else-not-graph_held
unfolding path_of
returns-else-not-graph_held c e =
    links-all c.args.w.now c.args.s.now (c.same_reps.ensures c.if-not-same_reps.false) (c.loop-k.k + 1) (omega (arith, c.links-count.ensures.0))
    (below_more _ _ c.loop-k.invariant (c.graph_held.ensures c.if-not-graph_held.false))
