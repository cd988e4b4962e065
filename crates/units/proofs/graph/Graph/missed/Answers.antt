-- What row x has, less x itself and what row y has.
use Rattle.std.proofs.Common.{[]}
use Rattle.facts.specs.Path.{graph_of}
use Rattle.rules.specs.Tests.{third_test}
use Rattle.rules.proofs.Rows.{third_func}
use Rattle.units.proofs.graph.Graph.missed.Goals as goal

pub returns : goal.returns
unfolding graph_of third_test
returns c = λ z h. third_func [] c.args.self.now.reach c.args.x c.args.y z c.requires.0 c.requires.1 h _ _ _ c.only.ensures c.without.ensures c.without-2.ensures
