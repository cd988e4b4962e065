-- Two words and two numbers. Assumes nothing.
use native.Mathlib.Omega.{arith}
use borrow.Author.Rules.{rules}
use Rattle.text.proofs.Writing.{writes_as, writes_then}
use Rattle.text.proofs.Digits.{decimal_machine}
use Rattle.wording.proofs.Texts.{refused_words}
use Rattle.wording.proofs.put_refused.Statement.{statement}
use Rattle.wording.proofs.put_refused.Tie as tie

pub put_refused_spec : {M : Type 1} → statement M
put_refused_spec =
    tie.close
    (tie.spec
    -- put-bytes-requires
    (λ c κs. search rules)
    -- put-decimal-requires
    (λ c κs. search rules)
    -- put-bytes-requires-2
    (λ c κs. let k = decimal_machine c.args.k (omega arith) in omega arith)
    -- put-decimal-requires-2
    (λ c κs. let k = decimal_machine (c).args.k (omega arith) in omega arith)
    -- same-length
    (λ c. search rules)
    -- returns
    (λ c.
    let after_put_decimal2 = c in let after_put_bytes2 = after_put_decimal2 in
    let after_put_decimal = after_put_bytes2 in
    let after_put_bytes = after_put_decimal in let start = after_put_bytes2 in
    let k = decimal_machine start.args.k (omega arith) in
    let p = decimal_machine start.args.place (omega arith) in (
      writes_as (refused_words _ _) (writes_then after_put_bytes.put_bytes-number.ensures
          (writes_then after_put_decimal.put_decimal-behind.ensures (writes_then after_put_bytes2.put_bytes-where_from.ensures after_put_decimal2.put_decimal.ensures))),
      omega (
        arith,
        after_put_bytes.put_bytes-number.ensures.ends,
        after_put_decimal.put_decimal-behind.ensures.ends,
        after_put_bytes2.put_bytes-where_from.ensures.ends,
        after_put_decimal2.put_decimal.ensures.ends,
      ),
    )))
