-- The marks so far and the pairs left make the whole.
use Rattle.std.proofs.Common.{refl, arith, length-set}
use Rattle.ordering.proofs.Sheets.{pair_small}
use Rattle.pair_rings.proofs.Turns.{marks_start, marks_turn, marks_end}
use Rattle.pair_rings.proofs.step_back.Goals as goal

pub loop-i-init : goal.loop-i-init
loop-i-init c = (c.count-end.ensures.0, refl, rw c.count-end.ensures.0 (marks_start c.args.sheet.now c.args.row))

pub bounds-row-to : goal.bounds-row-to
bounds-row-to c =
    let s = pair_small c.args.sheet.now c.requires.0 c.requires.1 c.loop-i.i (omega (arith, c.loop-i.invariant.0)) in
    omega (arith, c.later-to.ensures)

pub bounds-out-from : goal.bounds-out-from
bounds-out-from c =
    let s = pair_small c.args.sheet.now c.requires.0 c.requires.1 c.loop-i.i (omega (arith, c.loop-i.invariant.0)) in
    omega (arith, c.earlier-from.ensures)

pub bounds-out-from-in-loop-i : goal.bounds-out-from-in-loop-i
bounds-out-from-in-loop-i c =
    let s = pair_small c.args.sheet.now c.requires.0 c.requires.1 c.loop-i.i (omega (arith, c.loop-i.invariant.0)) in
    omega (arith, c.earlier-from.ensures)

pub loop-i-preserved : goal.loop-i-preserved
loop-i-preserved c =
    let s = pair_small c.args.sheet.now c.requires.0
    c.requires.1 c.loop-i.i (omega (arith, c.loop-i.invariant.0)) in (
      c.loop-i.invariant.0,
      simp length-set c.loop-i.invariant.1,
      marks_turn c.args.sheet.now c.args.row
          c.count-end.result c.loop-i.i c.loop-i.out
          c.earlier-from.result c.later-to.result c.loop-i-test.true c.loop-i.invariant.1
          (omega (arith, c.earlier-from.ensures)) c.earlier-from.ensures c.later-to.ensures c.loop-i.invariant.2,
    )

pub returns : goal.returns
returns c =
    marks_end c.args.sheet.now c.args.row c.count-end.result c.loop-i.i c.loop-i.out c.loop-i-test.false c.loop-i.invariant.2
