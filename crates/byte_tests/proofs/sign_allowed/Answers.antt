use Rattle.std.proofs.Common.{rules}
use Rattle.logic.specs.Query.{sign_role}
use Rattle.byte_tests.proofs.sign_allowed.Goals as goal

pub returns : goal.returns
unfolding sign_role
returns c = search rules
