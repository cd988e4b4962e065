-- The part of either query, or the refusal.
use Rattle.std.proofs.Common.{◌+◌, ◌-◌, drop, refl, arith}
use Rattle.text.proofs.Writing.{writes_as}
use Rattle.hex_lines.proofs.Hex.{taken_few}
use Rattle.join_printing.proofs.Texts.{in_first, in_second, hand_refused}
use Rattle.join_printing.proofs.put_handed.Goals as goal

pub put_in_first-requires : goal.put_in_first-requires
put_in_first-requires c =
    let at = c.in-Ok-InFirst.at in
    let inside = rw c.in-Ok-InFirst.field-0-is at c.in-Ok-InFirst.ensures.1 in
    omega (arith, taken_few (at + c.in-Ok-InFirst.size - at) (drop at c.args.first.now), inside)

pub put_in_second-requires : goal.put_in_second-requires
put_in_second-requires c =
    let at = c.in-Ok-InSecond.at in
    let inside = rw c.in-Ok-InSecond.field-0-is at c.in-Ok-InSecond.ensures.1 in
    omega (arith, taken_few (at + c.in-Ok-InSecond.size - at) (drop at c.args.second.now), inside)

pub returns-in-Ok-InFirst : goal.returns-in-Ok-InFirst
returns-in-Ok-InFirst c =
    writes_as (in_first _ _ _ _ c.find_named.ensures.0 _ _ _ (rw c.in-Ok-InFirst.field-0-is at c.in-Ok-InFirst.is) refl) c.put_in_first.ensures

pub returns-in-Ok-InSecond : goal.returns-in-Ok-InSecond
returns-in-Ok-InSecond c =
    writes_as (in_second _ _ _ _ c.find_named.ensures.0 _ _ _ (rw c.in-Ok-InSecond.field-0-is at c.in-Ok-InSecond.is) refl) c.put_in_second.ensures

pub returns-in-Err : goal.returns-in-Err
returns-in-Err c = writes_as (hand_refused _ _ _ _ c.find_named.ensures.0 _ c.in-Err.is) c.put_refusal.ensures
