-- The lowest of the successors.
use Rattle.std.proofs.Common.{◌∙◌, arith}
use Rattle.rows.proofs.Successors.{lowest_term}
use Rattle.rows.proofs.successor.Goals as goal

pub returns : goal.returns
returns c = c.first.ensures ∙ lowest_term _ _ (omega arith) _ c.successor_row.ensures
