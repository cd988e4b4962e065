-- The query in hex, or the refusal.
use Rattle.std.proofs.Common.{arith}
use Rattle.text.proofs.Writing.{writes_as}
use Rattle.hex_lines.proofs.Hex.{taken_within}
use Rattle.rewrite_printing.proofs.Texts.{written_text, refused_text_lem}
use Rattle.rewrite_printing.proofs.put_answer.Goals as goal

pub put_hex_line-requires : goal.put_hex_line-requires
put_hex_line-requires c = (omega arith, taken_within c.min-end.result _ _ (omega (arith, c.min-end.ensures, c.requires)))

pub returns-in-Ok : goal.returns-in-Ok
returns-in-Ok c = writes_as (written_text c.args.answer c.args.out.now _ _ c.in-Ok.is c.min-end.ensures) c.put_hex_line.ensures

pub returns-in-Err : goal.returns-in-Err
returns-in-Err c = writes_as (refused_text_lem c.args.answer c.args.out.now _ c.in-Err.is) (rw (← c.number.ensures) c.put_refusal.ensures.0)
