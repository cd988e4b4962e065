use Rattle.std.proofs.Common.{◌∙◌, ap}
use mathlib.Core.Bool.{not}
use Rattle.decimal_lines.proofs.Reading.{between_not, between_place}
use Rattle.decimal_lines.proofs.is_between.Goals as goal

pub returns-then-not-begun : goal.returns-then-not-begun
returns-then-not-begun c = between_place _ c.if-not-begun.true

pub returns-else-not-begun : goal.returns-else-not-begun
returns-else-not-begun c = ap not c.if-not-begun.false ∙ between_not _ c.if-not-begun.false
