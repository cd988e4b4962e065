-- The word shifted down, and its lowest bit.
use Rattle.rows.proofs.Words.{bit_shifted}
use Rattle.rows.proofs.has.Goals as goal

pub returns : goal.returns
returns c = bit_shifted _ _
