use Rattle.std.proofs.Common.{rules}
use Rattle.between_search.specs.Search.{entry}
use Rattle.between_tests.proofs.link_of.Goals as goal

pub returns : goal.returns
unfolding entry
returns c = search rules
