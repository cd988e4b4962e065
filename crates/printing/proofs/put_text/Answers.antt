-- The order list and the query among the bytes that are read.
use Rattle.logic.specs.Calls.{one_link_form}
use Rattle.text.proofs.Writing.{writes_as}
use Rattle.printing.proofs.Calls.{text-read}
use Rattle.printing.proofs.put_text.Goals as goal

pub returns : goal.returns
returns c = (writes_as (text-read _ _ _ c.min-cut.ensures c.min-end.ensures one_link_form) c.put_one.ensures.0, c.put_one.ensures.1)
