-- The parts over their greatest common divisor. Assumes nothing.
use Prim.Native.Nat.{◌/◌}
use native.Mathlib.Omega.{arith}
use native.Mathlib.Nat.{div-le_self}
use borrow.Author.Rules.{rules}
use Rattle.text.proofs.Writing.{writes_as, writes_then}
use Rattle.text.proofs.Digits.{decimal_machine}
use Rattle.fractions.proofs.Shares.{divisor_positive, share_words, none_words}
use Rattle.fractions.proofs.put_share.Statement.{statement}
use Rattle.fractions.proofs.put_share.Tie as tie

pub put_share_spec : {M : Type 1} → statement M
put_share_spec =
    tie.close
    (tie.spec
    -- put-bytes-requires
    (λ c κs. search rules)
    -- same-length
    (λ c. search rules)
    -- returns
    (λ c.
    (writes_as (none_words _ _ (omega arith)) c.put_bytes.ensures, omega (arith, c.put_bytes.ensures.ends)))
    -- gcd-of-requires
    (λ c κs. search rules)
    -- div-top
    (λ c. let p = divisor_positive c.gcd_of-divisor.ensures (omega arith) c.requires.1 in omega arith)
    -- div-bottom
    (λ c. let p = divisor_positive c.gcd_of-divisor.ensures (omega arith) c.requires.1 in omega arith)
    -- put-decimal-requires
    (λ c κs. omega arith)
    -- put-byte-requires
    (λ c κs.
    let t = decimal_machine (c.args.count / c.gcd_of-divisor.result) (omega (arith, div-le_self c.args.count c.gcd_of-divisor.result)) in
    omega (arith, c.put_decimal-slash.ensures.ends))
    -- put-decimal-requires-2
    (λ c κs.
    let t = decimal_machine (c.args.count / c.gcd_of-divisor.result) (omega (arith, div-le_self c.args.count c.gcd_of-divisor.result)) in
    omega (arith, c.put_decimal-slash.ensures.ends, c.put_byte-below.ensures.ends))
    -- put-byte-requires-2
    (λ c κs.
    let gcd_of_result = c.gcd_of-divisor.result in
    let t = decimal_machine (c.args.count / gcd_of_result) (omega (arith, div-le_self c.args.count gcd_of_result)) in
    let b = decimal_machine (c.args.total / gcd_of_result) (omega (arith, div-le_self c.args.total gcd_of_result)) in
    omega (arith, c.put_decimal-slash.ensures.ends, c.put_byte-below.ensures.ends, c.put_decimal-end.ensures.ends))
    -- same-length-2
    (λ c. search rules)
    -- returns-2
    (λ c.
    let gcd_of_result = c.gcd_of-divisor.result in
    let t = decimal_machine (c.args.count / gcd_of_result) (omega (arith, div-le_self c.args.count gcd_of_result)) in
    let b = decimal_machine (c.args.total / gcd_of_result) (omega (arith, div-le_self c.args.total gcd_of_result)) in (
      writes_as (share_words _ _ _ (omega arith) c.gcd_of-divisor.ensures)
          (writes_then c.put_decimal-slash.ensures
          (writes_then c.put_byte-below.ensures (writes_then c.put_decimal-end.ensures c.put_byte.ensures))),
      omega (arith, c.put_decimal-slash.ensures.ends, c.put_byte-below.ensures.ends, c.put_decimal-end.ensures.ends, c.put_byte.ensures.ends),
    )))
