use Rattle.std.proofs.Common.{◌∙◌, sym, refl, arith}
use Rattle.decimal_lines.proofs.Reading.{digit_range, digit_is, end_is, value_as, place_as}
use Rattle.decimal_lines.proofs.Reading.{scanned_none, scanned_digit, scanned_end, puts_big, puts_other, puts_open, puts_all}
use Rattle.decimal_lines.proofs.put_numbers.Goals as goal

pub loop-byte-init : goal.loop-byte-init
loop-byte-init c = (omega arith, omega arith, scanned_none _ _ _)

pub overflow_sub-value : goal.overflow_sub-value
overflow_sub-value c = (digit_range _ (sym c.is_digit.ensures ∙ c.if-is_digit.true)).0

pub returns-then-value-gt255 : goal.returns-then-value-gt255
returns-then-value-gt255 c =
    puts_big _ _ _ c.loop-byte.invariant.2 _ _ refl c.loop-byte-test.true
    (digit_is _ c.from-c.ensures (sym c.is_digit.ensures ∙ c.if-is_digit.true))
    (omega (arith, c.from-c.ensures, c.if-value-gt255.true))

pub loop-byte-preserved-then-is_digit : goal.loop-byte-preserved-then-is_digit
loop-byte-preserved-then-is_digit c = (
  omega arith,
  omega arith,
  value_as _ c.from-c.ensures
      (scanned_digit _ _ _ c.loop-byte.invariant.2 c.loop-byte-test.true
      (digit_is _ c.from-c.ensures (sym c.is_digit.ensures ∙ c.if-is_digit.true)) (omega (arith, c.from-c.ensures, c.if-value-gt255.false))),
)

pub returns-then-not-ends_number : goal.returns-then-not-ends_number
returns-then-not-ends_number c =
    puts_other _ _ _ c.loop-byte.invariant.2 _ _ refl c.loop-byte-test.true
    (digit_is _ c.from-c.ensures (sym c.is_digit.ensures ∙ c.if-is_digit.false))
    (end_is _ _ c.from-c.ensures (sym c.ends_number.ensures ∙ c.if-not-ends_number.true))

pub loop-byte-preserved : goal.loop-byte-preserved
loop-byte-preserved c = (
  omega (arith, c.next_place-place.ensures.1),
  omega arith,
  place_as (sym c.next_place-place.ensures.0)
      (scanned_end _ _ _ c.loop-byte.invariant.2 c.loop-byte-test.true
      (digit_is _ c.from-c.ensures (sym c.is_digit.ensures ∙ c.if-is_digit.false))
      (end_is _ _ c.from-c.ensures (sym c.ends_number.ensures ∙ c.if-not-ends_number.false)) c.put_byte-to.ensures),
)

pub returns-then-not-is_between : goal.returns-then-not-is_between
returns-then-not-is_between c = puts_open _ _ _ c.loop-byte.invariant.2 _ _ refl (omega arith) (sym c.is_between.ensures ∙ c.if-not-is_between.true)

pub returns : goal.returns
returns c = puts_all _ _ _ c.loop-byte.invariant.2 (omega arith) (sym c.is_between.ensures ∙ c.if-not-is_between.false)
