use Rattle.text.proofs.Writing.{writes_then}
use Rattle.join_printing.proofs.put_about.Goals as goal

pub returns : goal.returns
returns c = rw (← c.number.ensures) (writes_then c.put_refused-end.ensures.0 c.put_bytes.ensures)
