-- The four bytes, where they stand.
use Rattle.std.proofs.Common.{arith, ◌∙◌, refl}
use Rattle.derivation_lines.proofs.Lines.{join_past, join_there}
use Rattle.derivation_lines.proofs.is_join.Goals as goal

pub returns-then-count-at : goal.returns-then-count-at
returns-then-count-at c = join_past _ _ _ _ _ c.requires c.if-count-at.true

pub returns : goal.returns
returns c = c.eq.ensures ∙ join_there _ _ _ _ _ c.requires _ _ refl (omega arith) c.if-count-at.false
