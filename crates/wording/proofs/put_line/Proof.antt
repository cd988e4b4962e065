-- Four numbers and a newline. Assumes nothing.
use native.Mathlib.Omega.{arith}
use borrow.Author.Rules.{rules}
use Rattle.text.proofs.Writing.{writes_as, writes_then}
use Rattle.wording.proofs.Texts.{line_words}
use Rattle.wording.proofs.put_line.Statement.{statement}
use Rattle.wording.proofs.put_line.Tie as tie

pub put_line_spec : {M : Type 1} → statement M
put_line_spec =
    tie.close
    (tie.spec
    -- put-number-requires
    (λ c κs. search rules)
    -- put-next-requires
    (λ c κs. search rules)
    -- put-next-requires-2
    (λ c κs. search rules)
    -- put-next-requires-3
    (λ c κs. search rules)
    -- put-byte-requires
    (λ c κs. search rules)
    -- same-length
    (λ c. search rules)
    -- returns
    (λ c.
    let after_put_byte = c in let after_put_next3 = after_put_byte in
    let after_put_next2 = after_put_next3 in
    let after_put_next = after_put_next2 in (
      writes_as (line_words _ _ _ _)
          (writes_then after_put_next.put_number-first.ensures.0
          (writes_then after_put_next.put_next-second.ensures.0
          (writes_then after_put_next2.put_next-third.ensures.0 (writes_then after_put_next3.put_next-fourth.ensures.0 after_put_byte.put_byte.ensures)))),
      omega (arith, after_put_byte.put_byte.ensures.ends),
    )))
