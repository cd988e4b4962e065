-- What row x has, less what y reaches and what reaches y.
use Rattle.std.proofs.Common.{[]}
use Rattle.facts.specs.Path.{graph_of}
use Rattle.rules.specs.Tests.{third_test}
use Rattle.rules.proofs.Rows.{third_total}
use Rattle.units.proofs.graph.Graph.unordered.Goals as goal

pub returns : goal.returns
unfolding graph_of third_test
returns c =
    let g = c.args.self.now in
    λ z h. third_total [] g.reach g.back g.turned c.args.x c.args.y z c.requires.0 c.requires.1 h _ _ c.without.ensures c.without-2.ensures
