-- What was found, or the refusal.
use Rattle.std.proofs.Common.{arith}
use Rattle.text.proofs.Writing.{writes_as, writes_then}
use Rattle.check_printing.proofs.Answers.{found_words, refused_words}
use Rattle.check_printing.proofs.put_answer.Goals as goal

pub returns-in-Ok : goal.returns-in-Ok
returns-in-Ok c = (writes_as (found_words _ _ c.in-Ok.is) c.put_found.ensures.0, c.put_found.ensures.1)

pub returns-in-Err : goal.returns-in-Err
returns-in-Err c = (
  writes_as (refused_words _ _ c.in-Err.is) (rw (← c.number.ensures) (writes_then c.put_refused-end.ensures.0 c.put_byte.ensures)),
  omega (arith, c.put_refused-end.ensures.1, c.put_byte.ensures.ends),
)
