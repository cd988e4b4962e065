-- 2 shifted up, less 1.
use Rattle.std.proofs.Common.{arith}
use Rattle.rows.proofs.Words.{bit_up_to}
use Rattle.rows.proofs.up_to.Goals as goal

pub returns : goal.returns
returns c = bit_up_to _ (omega arith)
