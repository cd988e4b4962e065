-- The parts among the bytes that are read.
use Rattle.std.proofs.Common.{◌-◌, drop, arith}
use Rattle.text.proofs.Writing.{writes_as}
use Rattle.hex_lines.proofs.Hex.{taken_few}
use Rattle.join_printing.proofs.Texts.{input_read}
use Rattle.join_printing.proofs.put_text.Goals as goal

pub put_second-requires : goal.put_second-requires
put_second-requires c = omega (arith, taken_few (c.min-to.result - c.min-from.result) (drop c.min-from.result c.args.input.now))

pub returns : goal.returns
returns c =
    writes_as (input_read _ _ _ c.byte_at.ensures.0 c.byte_at-2.ensures.0 c.min-from.ensures c.min-to.ensures) c.put_second.ensures
