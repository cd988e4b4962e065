-- What the one row has and the other has not.
use Rattle.std.proofs.Common.{[], arith}
use Rattle.facts.specs.Path.{graph_of}
use Rattle.rules.specs.Tests.{third_test}
use Rattle.rules.proofs.Rows.{third_scc}
use Rattle.units.proofs.graph.Graph.ahead.Goals as goal

pub returns : goal.returns
unfolding graph_of third_test
returns c = let g = c.args.self.now in λ z h. third_scc [] g.reach g.back g.turned c.args.x 0 z c.requires (omega arith) h _ c.without.ensures
