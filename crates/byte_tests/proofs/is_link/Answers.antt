use Rattle.std.proofs.Common.{rules}
use Rattle.logic.specs.Search.{◌and◌}
use Rattle.logic.specs.ThreeLinks.{is_link}
use Rattle.byte_tests.proofs.is_link.Goals as goal

pub returns : goal.returns
unfolding ◌and◌ is_link
returns c = search rules
