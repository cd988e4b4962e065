-- The bits are handed on where the row has y.
use Rattle.std.proofs.Common.{sym, ◌∙◌}
use Rattle.closing.proofs.Rows.{passed_all, passed_none}
use Rattle.closing.proofs.passed_on.Goals as goal

pub returns-then-has : goal.returns-then-has
returns-then-has c i = passed_all _ _ _ i (sym c.has.ensures ∙ c.if-has.true)

pub returns-else-has : goal.returns-else-has
returns-else-has c i = passed_none _ _ _ i (sym c.has.ensures ∙ c.if-has.false)
