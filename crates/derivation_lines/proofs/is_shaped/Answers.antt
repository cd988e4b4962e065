-- The length is that of the count, which is no more than 16,000.
use Rattle.derivation_lines.proofs.Lines.{shape_short, shape_bound, shape_other}
use Rattle.derivation_lines.proofs.is_shaped.Goals as goal

pub returns-then-length-lt2 : goal.returns-then-length-lt2
returns-then-length-lt2 c = shape_short _ c.if-length-lt2.true

pub returns-then-length-count : goal.returns-then-length-count
returns-then-length-count c = shape_bound _ _ c.count_of-count.ensures.0 c.if-length-count.true

pub returns-else-length-count : goal.returns-else-length-count
returns-else-length-count c = shape_other _ _ c.count_of-count.ensures.0 c.if-length-count.false
