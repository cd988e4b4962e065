-- 1 shifted up.
use Rattle.std.proofs.Common.{arith}
use Rattle.rows.proofs.Words.{bit_only}
use Rattle.rows.proofs.only.Goals as goal

pub returns : goal.returns
returns c = bit_only _ (omega arith)
