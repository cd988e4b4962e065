-- One text for each case.
use Rattle.std.proofs.Common.{arith}
use Rattle.text.proofs.Writing.{writes_as, writes_then}
use Rattle.text.proofs.Digits.{decimal_machine}
use Rattle.check_printing.proofs.Answers.{accepted_words, wrong_words}
use Rattle.check_printing.proofs.put_found.Goals as goal

pub returns-in-None : goal.returns-in-None
returns-in-None c = (writes_as (accepted_words _ c.in-None.is) c.put_bytes.ensures, omega (arith, c.put_bytes.ensures.ends))

pub put_byte-requires : goal.put_byte-requires
put_byte-requires c = omega (arith, c.put_bytes-number.ensures.ends, c.put_decimal-end.ensures.ends, decimal_machine c.in-Some.line (omega arith))

pub returns-in-Some : goal.returns-in-Some
returns-in-Some c = (
  writes_as (wrong_words _ _ c.in-Some.is) (writes_then c.put_bytes-number.ensures (writes_then c.put_decimal-end.ensures c.put_byte.ensures)),
  omega (
    arith,
    c.put_bytes-number.ensures.ends,
    c.put_decimal-end.ensures.ends,
    decimal_machine c.in-Some.line (omega arith),
    c.put_byte.ensures.ends,
  ),
)
