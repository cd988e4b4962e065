use Rattle.std.proofs.Common.{sym, refl, arith}
use Rattle.text.proofs.Writing.{writes_then, writes_as, part_from, part_more, part_last, part_place}
use Rattle.hex_lines.proofs.Hex.{left-next, left_end, left-length}
use Rattle.hex_lines.proofs.put_behind.Goals as goal

pub loop-byte-init : goal.loop-byte-init
loop-byte-init c = part_from _ _ refl

pub loop-byte-preserved : goal.loop-byte-preserved
loop-byte-preserved c =
    part_more c.loop-byte.invariant (left-next c.args.bytes.now c.loop-byte.byte-index (omega arith)) (writes_then c.put_byte-to.ensures c.put_hex_byte-to.ensures)

pub returns : goal.returns
returns c = part_last c.loop-byte.invariant (writes_as (sym (left_end c.args.bytes.now c.loop-byte.byte-index (omega arith))) c.put_byte.ensures)

pub put_byte-to-requires : goal.put_byte-to-requires
put_byte-to-requires c =
    omega (arith, part_place c.loop-byte.invariant, left-length c.args.bytes.now c.loop-byte.byte-index, left-length c.args.bytes.now 0)

pub put_hex_byte-to-requires : goal.put_hex_byte-to-requires
put_hex_byte-to-requires c =
    omega (arith, part_place c.loop-byte.invariant, left-length c.args.bytes.now c.loop-byte.byte-index, left-length c.args.bytes.now 0, c.put_byte-to.ensures.ends)

pub put_byte-requires : goal.put_byte-requires
put_byte-requires c =
    omega (arith, part_place c.loop-byte.invariant, left-length c.args.bytes.now c.loop-byte.byte-index, left-length c.args.bytes.now 0)
