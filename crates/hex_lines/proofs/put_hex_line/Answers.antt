use Rattle.std.proofs.Common.{◌≡◌, ◌<◌, length, get_or, arith}
use Rattle.std.proofs.lemmas.Bool.Decides.{nat_tests}
use Rattle.text.proofs.Writing.{writes_as, writes_then}
use Rattle.text.proofs.Digits.{hex_two}
use Rattle.hex_lines.proofs.Hex.{hex_none, hex_some, behind_first, behind_few}
use Rattle.hex_lines.proofs.put_hex_line.Goals as goal

pub returns-then-is_empty : goal.returns-then-is_empty
returns-then-is_empty c =
    let none : length c.args.bytes.now ≡ 0 = grind (arith, nat_tests, c.if-is_empty.ensures, c.is_empty.ensures, c.if-is_empty.true) in
    writes_as (hex_none _ none) c.put_byte.ensures

pub bounds-bytes-0 : goal.bounds-bytes-0
bounds-bytes-0 c = grind (arith, nat_tests, c.if-is_empty.ensures, c.is_empty.ensures, c.if-is_empty.false)

pub put_behind-requires : goal.put_behind-requires
put_behind-requires c = (omega (arith, c.put_hex_byte-to.ensures.ends, hex_two (get_or c.args.bytes.now 0 0)), behind_few c.args.bytes.now c.requires.1)

pub returns : goal.returns
returns c =
    let some : 0 < length c.args.bytes.now = grind (arith, nat_tests, c.if-is_empty.ensures, c.is_empty.ensures, c.if-is_empty.false) in
    writes_as (hex_some _ some) (writes_then c.put_hex_byte-to.ensures (writes_as (behind_first c.args.bytes.now) c.put_behind.ensures))
