-- What both rows have, less x itself.
use Rattle.std.proofs.Common.{[]}
use Rattle.facts.specs.Path.{graph_of}
use Rattle.rules.proofs.Rows.{pair_mutual}
use Rattle.units.proofs.graph.Graph.both_ways.Goals as goal

pub returns : goal.returns
unfolding graph_of
returns c = let g = c.args.self.now in λ y h. pair_mutual [] g.reach g.back g.turned c.args.x c.requires y h _ _ c.only.ensures c.without.ensures
