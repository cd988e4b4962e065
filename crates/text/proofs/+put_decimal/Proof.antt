-- The digits before the last, which show a tenth of the number, and the last. Assumes nothing.
use Prim.Native.Nat.{ℕ, ◌<◌}
use native.Mathlib.Omega.{arith}
use mathlib.Core.Path.{◌∙◌}
use borrow.Fn.Kinds.{In}
use borrow.Fn.PlainCycle.{Measures, is, falls, and}
use Rattle.text.proofs.Writing.{writes_as, writes_then, writes_length}
use Rattle.text.proofs.Digits.{decimal_one, decimal_last, decimal_tenth}
use Rattle.text.proofs.put_decimal.Reads as put_decimal
use Rattle.text.proofs.put_decimal.Kinds as put_decimal_kinds
use Rattle.text.proofs.+put_decimal.Lts-put_decimal as put_decimal_lts
use Rattle.text.proofs.digit.Reads as digit_reads
use Rattle.text.proofs.put_byte.Reads as put_byte_reads
use Rattle.text.proofs.+put_decimal.{statement}
use Rattle.text.proofs.+put_decimal.Tie.{close}

-- The places that lie behind a place.
module _ {K : put_decimal_lts.Claims} {P : In 1 put_decimal_kinds.ps} where
  abbrev put_decimal_of_digit2 : put_decimal_lts.After-digit-2 K P put_decimal.Post → put_decimal_lts.After-put_decimal-to K P put_decimal.Post
  put_decimal_of_digit2 c = c.before.before.before.before

abbrev μ_put_decimal : Measures 1 put_decimal_kinds.ps ℕ
μ_put_decimal κs a = a.1.1.0

abbrev put_decimal_at : ℕ → In 1 put_decimal_kinds.ps
put_decimal_at t =
    and 1 put_decimal_kinds.ps (is 1 put_decimal_kinds.ps μ_put_decimal t) put_decimal.Pre

abbrev put_decimal_below : ℕ → In 1 put_decimal_kinds.ps
put_decimal_below t =
    and 1 put_decimal_kinds.ps (falls 1 put_decimal_kinds.ps ◌<◌ μ_put_decimal t) put_decimal.Pre

pub +put_decimal_spec : {M : Type 1} → statement M
+put_decimal_spec = close μ_put_decimal λ t. put_decimal_lts.spec (
  digit_reads.Asked,
  digit_reads.Learnt,
  put_byte_reads.Asked,
  put_byte_reads.Learnt,
  put_decimal_below t,
  put_decimal.Post,
)
    (put_decimal_at t)
    put_decimal.Post
    -- put-decimal-digit-requires
    (λ c κs. omega arith)
    -- put-decimal-put-byte-requires
    (λ c κs. omega arith)
    -- put-decimal-same-length
    (λ c. writes_length c.put_byte.ensures)
    -- put-decimal-returns
    (λ c.
    let after_digit = c in
    writes_as (decimal_one _ after_digit.if-k-lt10.true after_digit.digit.ensures) c.put_byte.ensures)
    -- put-decimal-put-decimal-requires
    (λ c κs. (omega arith, omega arith))
    -- put-decimal-digit-requires-2
    (λ c κs. omega arith)
    -- put-decimal-put-byte-requires-2
    (λ c κs.
    let after_put_decimal = put_decimal_of_digit2 c in
    let l = decimal_tenth after_put_decimal.args.k (omega arith) in omega (arith, after_put_decimal.put_decimal-to.ensures.ends))
    -- put-decimal-same-length-2
    (λ c. writes_length c.put_byte-2.ensures ∙ writes_length (put_decimal_of_digit2 c.before.before.before).put_decimal-to.ensures)
    -- put-decimal-returns-2
    (λ c.
    let after_digit2 = c in let after_put_decimal = put_decimal_of_digit2 after_digit2.before.before.before in
    writes_as (decimal_last _ after_put_decimal.if-k-lt10.false after_digit2.digit-2.ensures)
    (writes_then after_put_decimal.put_decimal-to.ensures c.put_byte-2.ensures))
