use Rattle.std.proofs.Common.{rules}
use Rattle.logic.specs.Search.{◌and◌}
use Rattle.byte_tests.proofs.number_allowed.Goals as goal

pub returns : goal.returns
unfolding ◌and◌
returns c = search rules
