-- The bits of both, less those of the other.
use Rattle.rows.proofs.Bits.{bit_without}
use Rattle.rows.proofs.without.Goals as goal

pub returns : goal.returns
returns c = bit_without _ _
