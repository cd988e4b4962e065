-- The link's part and the rule's.
use Rattle.std.proofs.Common.{rules}
use Rattle.logic.specs.Rules.{move_number}
use Rattle.walk.proofs.number.Goals as goal

pub returns : goal.returns
unfolding move_number
returns c = search rules
