-- Assumes nothing.
use native.Mathlib.Omega.{arith}
use borrow.Author.Rules.{rules}
use mathlib.Core.Path.{ap}
use Rattle.text.specs.Text.{decimal}
use Rattle.text.proofs.Writing.{writes_as}
use Rattle.text.proofs.Digits.{decimal_byte}
use Rattle.wording.proofs.put_number.Statement.{statement}
use Rattle.wording.proofs.put_number.Tie as tie

pub put_number_spec : {M : Type 1} → statement M
put_number_spec =
    tie.close
    (tie.spec
    -- wide-requires
    (λ c κs. search rules)
    -- put-decimal-requires
    (λ c κs. search rules)
    -- same-length
    (λ c. search rules)
    -- returns
    (λ c.
    let after_put_decimal = c in let after_wide = after_put_decimal in (
      writes_as (ap decimal after_wide.wide.ensures.0) after_put_decimal.put_decimal.ensures,
      omega (arith, after_put_decimal.put_decimal.ensures.ends, decimal_byte after_wide.wide.result after_wide.wide.ensures.1),
    )))
