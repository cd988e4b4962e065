-- The parts among the bytes that are read.
use Rattle.text.proofs.Writing.{writes_as}
use Rattle.check_printing.proofs.Answers.{size_is, input_read}
use Rattle.check_printing.proofs.put_text_in.Goals as goal

pub returns : goal.returns
returns c =
    let size = size_is _ c.byte_at.ensures.0 c.byte_at-2.ensures.0 in
    (writes_as (input_read _ _ _ _ size c.min-from.ensures c.min-to.ensures _) c.put_checked.ensures.0, c.put_checked.ensures.1)
