-- Bit hi is cleared, and set at lo where it was set.
use Rattle.rows.proofs.Words.{bit_renamed}
use Rattle.rows.proofs.renamed_row.Goals as goal

pub returns : goal.returns
returns c = bit_renamed _ _ _ _ c.args.pair.lower c.args.pair.few _ c.only.ensures c.without.ensures
