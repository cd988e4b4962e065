use Rattle.std.proofs.Common.{rules}
use Rattle.encoding.specs.QueryBytes.{sign_byte}
use Rattle.formula_query.proofs.sign_byte.Goals as goal

pub returns : goal.returns
unfolding sign_byte
returns c = search rules
