-- The words, and a newline. Assumes nothing.
use native.Mathlib.Omega.{arith}
use borrow.Author.Rules.{rules}
use Rattle.text.proofs.Writing.{writes_as, writes_then}
use Rattle.wording.proofs.Texts.{refusal_words}
use Rattle.wording.proofs.put_refusal.Statement.{statement}
use Rattle.wording.proofs.put_refusal.Tie as tie

pub put_refusal_spec : {M : Type 1} → statement M
put_refusal_spec =
    tie.close
    (tie.spec
    -- put-refused-requires
    (λ c κs. search rules)
    -- put-byte-requires
    (λ c κs. omega arith)
    -- same-length
    (λ c. search rules)
    -- returns
    (λ c.
    let after_put_byte = c in let after_put_refused = after_put_byte in (
      writes_as (refusal_words _ _) (writes_then after_put_refused.put_refused-end.ensures.0 after_put_byte.put_byte.ensures),
      omega (arith, after_put_refused.put_refused-end.ensures.1, after_put_byte.put_byte.ensures.ends),
    )))
