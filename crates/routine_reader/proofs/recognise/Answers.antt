-- What is left of the text is read from where the code is. Assumes nothing.
use Rattle.std.proofs.Common.{arith, length, length-set, refl, sym, ◌∙◌}
use Rattle.routine_reader.specs.Rows.{rows, choices}
use Rattle.routine_reader.proofs.Claims.{recogniser_claims}
use Rattle.routine_reader.proofs.Going.{moves_are, one_more, going_same, going_first, going_empty, going_top, going_turn, going_out, going_below, going_accepted}
use Rattle.routine_reader.proofs.Going.{going_more, going_other, going_token, going_action, going_none, going_below_94, going_row}
use Rattle.routine_reader.proofs.recognise.Goals as goal

pub loop-made-init : goal.loop-made-init
loop-made-init c =
    let s = c.args in
    let g = going_first s.text.now s.stack.now (omega (arith, c.if-stack-lt17.false)) c.next_token-t.ensures in
    (simp length-set (omega (arith, c.if-stack-lt17.false)), omega arith, g)

pub returns-then-t-eq0 : goal.returns-then-t-eq0
returns-then-t-eq0 c =
    let p = c.loop-made in
    let g = going_turn p.invariant.2 c.loop-made-test.true in
    going_accepted (going_empty p.stack p.height g c.if-height-eq0.true) c.if-t-eq0.true

pub returns-then-height-eq0 : goal.returns-then-height-eq0
returns-then-height-eq0 c =
    let p = c.loop-made in
    let g = going_turn p.invariant.2 c.loop-made-test.true in
    going_more (going_empty p.stack p.height g c.if-height-eq0.true) c.if-t-eq0.false

pub returns-then-top-t : goal.returns-then-top-t
returns-then-top-t c =
    let p = c.loop-made in
    let g = going_turn p.invariant.2 c.loop-made-test.true in
    let top = going_top p.stack p.height g c.if-height-eq0.false c.from-top.ensures in
    going_other top c.if-top-lt64.true c.if-top-t.true

pub loop-made-preserved-then-top-lt64 : goal.loop-made-preserved-then-top-lt64
loop-made-preserved-then-top-lt64 c =
    let p = c.loop-made in
    let g = going_turn p.invariant.2 c.loop-made-test.true in
    let top = going_top p.stack p.height g c.if-height-eq0.false c.from-top.ensures in
    let on = going_token top c.if-top-lt64.true c.if-top-t.false in
    (omega (arith, p.invariant.0), omega (arith, p.invariant.1), going_same on refl c.next_token-t-then-top-lt64.ensures)

pub loop-made-preserved-then-top-ge128 : goal.loop-made-preserved-then-top-ge128
loop-made-preserved-then-top-ge128 c =
    let p = c.loop-made in
    let g = going_turn p.invariant.2 c.loop-made-test.true in
    let top = going_top p.stack p.height g c.if-height-eq0.false c.from-top.ensures in
    (omega (arith, p.invariant.0), omega (arith, p.invariant.1), going_action top c.if-top-ge128.true)

pub choice-j-requires : goal.choice-j-requires
choice-j-requires c = (going_below (going_turn c.loop-made.invariant.2 c.loop-made-test.true), unfold choices in refl)

pub returns-then-j-eq0 : goal.returns-then-j-eq0
returns-then-j-eq0 c =
    let p = c.loop-made in
    let g = going_turn p.invariant.2 c.loop-made-test.true in
    let top = going_top p.stack p.height g c.if-height-eq0.false c.from-top.ensures in
    going_none top c.if-top-lt64.false c.if-top-ge128.false (sym c.choice-j.ensures ∙ c.if-j-eq0.true)

pub returns-then-stack-height : goal.returns-then-stack-height
returns-then-stack-height c =
    let s = c.args in
    let p = c.loop-made in
    omega (arith, c.if-stack-height.true, p.invariant.1, p.auto.stack, length-set s.stack.now 0 64, c.loop-made-test.true, c.if-height-eq0.false, moves_are (length s.text.now))

pub push_row-height-requires : goal.push_row-height-requires
push_row-height-requires c =
    let p = c.loop-made in
    let g = going_turn p.invariant.2 c.loop-made-test.true in
    let top = going_top p.stack p.height g c.if-height-eq0.false c.from-top.ensures in
    let o = sym c.choice-j.ensures ∙ one_more c.if-j-eq0.false in
    let j = going_below_94 top c.if-top-lt64.false c.if-top-ge128.false _ o in
    (j, omega (arith, c.if-stack-height.false), unfold rows in refl)

pub loop-made-preserved : goal.loop-made-preserved
loop-made-preserved c =
    let p = c.loop-made in
    let g = going_turn p.invariant.2 c.loop-made-test.true in
    let top = going_top p.stack p.height g c.if-height-eq0.false c.from-top.ensures in
    let o = sym c.choice-j.ensures ∙ one_more c.if-j-eq0.false in
    let q = c.push_row-height.ensures in
    let on = going_row top c.if-top-lt64.false c.if-top-ge128.false _ o in
    (omega (arith, q.1, q.2, c.if-stack-height.false), omega (arith, q.1, p.invariant.1, c.if-height-eq0.false), going_same on q.0 refl)

pub returns : goal.returns
returns c = recogniser_claims.recognised_ended _ (going_out c.loop-made.invariant.2 c.loop-made-test.false)
