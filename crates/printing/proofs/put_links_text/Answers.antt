-- The order list and the query among the bytes that are read.
use Rattle.logic.specs.ThreeLinks.{three_link_form}
use Rattle.text.proofs.Writing.{writes_as}
use Rattle.printing.proofs.Calls.{text-read}
use Rattle.printing.proofs.put_links_text.Goals as goal

pub returns : goal.returns
returns c = (writes_as (text-read _ _ _ c.min-cut.ensures c.min-end.ensures three_link_form) c.put_three.ensures.0, c.put_three.ensures.1)
