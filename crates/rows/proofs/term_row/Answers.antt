-- The numbers up to n, less 0.
use Rattle.rows.proofs.Words.{bit_terms}
use Rattle.rows.proofs.term_row.Goals as goal

pub returns : goal.returns
returns c = bit_terms _ _ _ c.up_to.ensures c.without.ensures
