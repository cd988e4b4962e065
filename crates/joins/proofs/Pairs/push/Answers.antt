-- The pair stands behind the others, where there is room.
use Rattle.std.proofs.Common.{arith}
use Rattle.joins.specs.Pairs.{pairs_of}
use Rattle.joins.proofs.Joins.{pairs_more}
use Rattle.joins.proofs.Pairs.push.Goals as goal

pub returns : goal.returns
unfolding pairs_of
returns c = pairs_more c.args.self.now.entries c.args.self.now.count _ (omega arith)
