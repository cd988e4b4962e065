-- One word for each answer. Assumes nothing.
use native.Mathlib.Omega.{arith}
use borrow.Author.Rules.{rules}
use Rattle.text.proofs.Writing.{writes_as}
use Rattle.printing.proofs.Texts.{sat_words, unsat_words, refusal_words}
use Rattle.printing.proofs.put_answer.Statement.{statement}
use Rattle.printing.proofs.put_answer.Tie as tie

pub put_answer_spec : {M : Type 1} → statement M
put_answer_spec =
    tie.close
    (tie.spec
    -- enum_told
    (λ c. search rules)
    -- put-bytes-requires
    (λ c κs. search rules)
    -- enum-told-2
    (λ c. search rules)
    -- put-bytes-requires-2
    (λ c κs. search rules)
    -- enum-known-answer
    (λ c. search rules)
    -- put-refused-requires
    (λ c κs. search rules)
    -- same-length
    (λ c. search rules)
    -- returns
    (λ c.
    (writes_as (sat_words _ c.in-Satisfiable.is) c.put_bytes.ensures, omega (arith, c.put_bytes.ensures.ends)))
    -- same-length-2
    (λ c. search rules)
    -- returns-2
    (λ c.
    (writes_as (unsat_words _ c.in-Refuted.is) c.put_bytes-in-Refuted.ensures, omega (arith, c.put_bytes-in-Refuted.ensures.ends)))
    -- same-length-3
    (λ c. search rules)
    -- returns-3
    (λ c.
    (writes_as (refusal_words _ _ _ c.in-Refused.is) c.put_refused.ensures.0, c.put_refused.ensures.1)))
