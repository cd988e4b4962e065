-- What row t has of the terms.
use Rattle.std.proofs.Common.{arith}
use Rattle.rows.proofs.Successors.{successor_bits}
use Rattle.rows.proofs.successor_row.Goals as goal

pub returns : goal.returns
returns c = successor_bits _ _ _ (omega arith) (omega arith) _ c.term_row.ensures
