-- One text for each answer. Assumes nothing.
use Prim.Native.Nat.{ℕ}
use native.Mathlib.Omega.{arith}
use borrow.Author.Rules.{rules}
use lib.ListN.{replicate, length-replicate}
use Rattle.text.proofs.Writing.{writes_as}
use Rattle.formula_printing.proofs.Texts.{sat_text_lem, unsat_text_lem, refused_text_lem, report_formed}
use Rattle.formula_printing.proofs.put_answer.Statement.{statement}
use Rattle.formula_printing.proofs.put_answer.Tie as tie

pub put_answer_spec : {M : Type 1} → statement M
put_answer_spec =
    tie.close
    (tie.spec
    -- slice-aggregate-formula
    (λ c. search rules)
    -- formula-requires
    (λ c κs. search rules)
    -- enum-known-n
    (λ c. search rules)
    -- slice-aggregate-put-sat
    (λ c. search rules)
    -- put-sat-requires
    (λ c κs.
    report_formed _ _ _ (replicate 53 0) _ _ c.formula.ensures (length-replicate {A = ℕ} 53 0) _ c.in-Conjunction.is)
    -- enum_told
    (λ c. search rules)
    -- put-bytes-requires
    (λ c κs. search rules)
    -- enum-known-k
    (λ c. search rules)
    -- put-refusal-requires
    (λ c κs. search rules)
    -- same-length
    (λ c. search rules)
    -- returns
    (λ c. (
      writes_as (sat_text_lem _ _ _ (replicate 53 0) _ _ c.formula.ensures (length-replicate {A = ℕ} 53 0) _ c.in-Conjunction.is)
          c.put_sat.ensures.0,
      c.put_sat.ensures.1,
    ))
    -- same-length-2
    (λ c. search rules)
    -- returns-2
    (λ c. (
      writes_as (unsat_text_lem _ _ _ (replicate 53 0) _ _ c.formula.ensures (length-replicate {A = ℕ} 53 0)
          c.in-Refuted.is) c.put_bytes.ensures,
      omega (arith, c.put_bytes.ensures.ends),
    ))
    -- same-length-3
    (λ c. search rules)
    -- returns-3
    (λ c. (
      writes_as (refused_text_lem _ _ _ (replicate 53 0) _ _ c.formula.ensures (length-replicate {A = ℕ} 53 0) _ _
          c.in-Refused.is) c.put_refusal.ensures.0,
      omega (arith, c.put_refusal.ensures.1),
    )))
