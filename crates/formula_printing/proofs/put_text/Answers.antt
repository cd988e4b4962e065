-- As much as is read.
use Rattle.std.proofs.Common.{arith, length-take-le}
use Rattle.text.proofs.Writing.{writes_as}
use Rattle.formula_printing.proofs.Texts.{whole-read}
use Rattle.formula_printing.proofs.put_text.Goals as goal

pub put_parts-requires : goal.put_parts-requires
put_parts-requires c = let l = length-take-le c.min-end.result c.args.input.now (omega arith) in omega (arith, l)

pub returns : goal.returns
returns c = (writes_as (whole-read _ _ c.min-end.ensures) c.put_parts.ensures.0, c.put_parts.ensures.1)
