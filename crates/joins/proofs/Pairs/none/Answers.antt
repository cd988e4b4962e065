-- None are counted.
use Rattle.std.proofs.Common.{refl}
use Rattle.logic.specs.Search.{from}
use Rattle.joins.specs.Pairs.{pairs_of}
use Rattle.joins.proofs.Pairs.none.Goals as goal

pub returns : goal.returns
unfolding pairs_of from
returns c = refl
