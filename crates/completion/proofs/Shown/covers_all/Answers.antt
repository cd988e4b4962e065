-- The row of what v reaches and u does not is empty.
use Rattle.std.proofs.Common.{rules, arith}
use Rattle.completion.proofs.Rows.{covered}
use Rattle.completion.proofs.Shown.covers_all.Goals as goal

pub returns : goal.returns
returns c = covered _ (omega arith) _ _ _ (omega arith) _ _ _ c.successor_row-reached.ensures c.only.ensures c.without.ensures (search rules)
