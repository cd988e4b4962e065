use Rattle.std.proofs.Common.{◌+◌, ◌*◌, arith}
use Rattle.text.proofs.Writing.{writes_as, writes_then}
use Rattle.text.proofs.Digits.{decimal_machine}
use Rattle.shares.proofs.Turns.{count_words}
use Rattle.shares.proofs.finish.Goals as goal

pub put_byte-requires : goal.put_byte-requires
put_byte-requires c =
    let d = decimal_machine (256 * c.byte_at.result + c.byte_at-2.result) (omega arith) in omega (arith, c.put_decimal-to.ensures.ends)

pub returns : goal.returns
returns c =
    let d = decimal_machine (256 * c.byte_at.result + c.byte_at-2.result) (omega arith) in
    record {
      wrote = writes_as (count_words _ c.byte_at.ensures.0 c.byte_at-2.ensures.0) (writes_then c.put_decimal-to.ensures c.put_byte.ensures);
      short = omega (arith, c.put_decimal-to.ensures.ends, c.put_byte.ensures.ends);
      leaves = c.add.ensures.leaves;
    }
