use Rattle.std.proofs.Common.{rules}
use Rattle.logic.specs.Search.{◌or◌}
use Rattle.logic.specs.Query.{entry_role}
use Rattle.byte_tests.proofs.entry_allowed.Goals as goal

pub returns : goal.returns
unfolding ◌or◌ entry_role
returns c = search rules
