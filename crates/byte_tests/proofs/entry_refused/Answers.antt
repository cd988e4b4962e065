use Rattle.logic.specs.Search.{◌and◌}
use Rattle.logic.specs.Query.{entry_role}
use Rattle.byte_tests.specs.Meets.{meets}
use Rattle.byte_tests.proofs.entry_refused.Goals as goal

pub returns : goal.returns
unfolding ◌and◌ entry_role meets
returns c = rw c.entry_allowed-allowed.ensures
