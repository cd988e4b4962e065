-- The parts among the bytes that are read.
use Rattle.std.proofs.Common.{refl}
use Rattle.text.proofs.Writing.{writes_as}
use Rattle.formula_printing.proofs.Texts.{length_read, parts_read}
use Rattle.formula_printing.proofs.put_parts.Goals as goal

pub returns : goal.returns
returns c = (
  writes_as (parts_read _ _ _ _ (length_read _ _ _ _ refl c.byte_at.ensures.0 c.byte_at-2.ensures.0) c.min-begin.ensures c.min-end.ensures _ c.min-cut.ensures)
      c.put_answer.ensures.0,
  c.put_answer.ensures.1,
)
