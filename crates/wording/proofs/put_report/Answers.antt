use Rattle.std.proofs.Common.{sym, refl, arith, get_or}
use Rattle.text.proofs.Writing.{writes_then, writes_as, part_from, part_more, part_last, part_place}
use Rattle.text.proofs.Digits.{hex_two}
use Rattle.wording.proofs.Texts.{left-length, report_first, report_next, report_end}
use Rattle.wording.proofs.put_report.Goals as goal

pub loop-i-init : goal.loop-i-init
loop-i-init c = part_from _ _ refl

pub put_byte-to-requires : goal.put_byte-to-requires
put_byte-to-requires c =
    let sized = left-length c.report_size-size.result c.args.report.now c.report_size-size.ensures.1 in
    omega (arith, part_place c.loop-i.invariant, sized 1, sized c.loop-i.i, c.put_hex_byte-to.ensures.ends, hex_two (get_or c.args.report.now 0 0))

pub put_hex_byte-to-requires-in-loop-i : goal.put_hex_byte-to-requires-in-loop-i
put_hex_byte-to-requires-in-loop-i c =
    let sized = left-length c.report_size-size.result c.args.report.now c.report_size-size.ensures.1 in
    omega (arith, part_place c.loop-i.invariant, sized 1, sized c.loop-i.i, c.put_hex_byte-to.ensures.ends, c.put_byte-to.ensures.ends, hex_two (get_or c.args.report.now 0 0))

pub loop-i-preserved : goal.loop-i-preserved
loop-i-preserved c =
    part_more c.loop-i.invariant (report_next c.report_size-size.result c.args.report.now c.report_size-size.ensures.1 c.loop-i.i (omega arith))
    (writes_then c.put_byte-to.ensures c.put_hex_byte-to-in-loop-i.ensures)

pub put_byte-requires : goal.put_byte-requires
put_byte-requires c =
    let sized = left-length c.report_size-size.result c.args.report.now c.report_size-size.ensures.1 in
    omega (arith, part_place c.loop-i.invariant, sized 1, sized c.loop-i.i, c.put_hex_byte-to.ensures.ends, hex_two (get_or c.args.report.now 0 0))

pub returns : goal.returns
returns c =
    let report = c.args.report.now in
    let size = c.report_size-size.ensures in
    let sized = left-length c.report_size-size.result report size.1 in
    let first = report_first c.report_size-size.result report size.1 size.0 (omega arith) in
    let last = report_end c.report_size-size.result report size.1 c.loop-i.i (omega arith) in
    let rest = part_last c.loop-i.invariant (writes_as (sym last) c.put_byte.ensures) in (
      writes_as (sym first) (writes_then c.put_hex_byte-to.ensures rest),
      omega (arith, rest.ends, sized 1, c.put_hex_byte-to.ensures.ends, hex_two (get_or report 0 0)),
    )
