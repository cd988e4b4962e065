-- Assumes nothing.
use native.Mathlib.Omega.{arith}
use borrow.Author.Rules.{rules}
use Rattle.text.proofs.Writing.{writes_then}
use Rattle.wording.proofs.put_next.Statement.{statement}
use Rattle.wording.proofs.put_next.Tie as tie

pub put_next_spec : {M : Type 1} → statement M
put_next_spec =
    tie.close
    (tie.spec
    -- put-byte-requires
    (λ c κs. search rules)
    -- put-number-requires
    (λ c κs. omega (arith, c.put_byte-to.ensures.ends))
    -- same-length
    (λ c. search rules)
    -- returns
    (λ c.
    let after_put_number = c in let after_put_byte = after_put_number in (
      writes_then after_put_byte.put_byte-to.ensures after_put_number.put_number.ensures.0,
      omega (arith, after_put_byte.put_byte-to.ensures.ends, after_put_number.put_number.ensures.1),
    )))
