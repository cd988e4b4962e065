-- One text for each answer. Assumes nothing.
use Prim.Native.Nat.{ℕ}
use native.Mathlib.Omega.{arith}
use borrow.Author.Rules.{rules}
use lib.ListN.{length-replicate}
use Rattle.text.proofs.Writing.{writes_none, writes_as}
use Rattle.call_limits.specs.Forms.{form_of}
use Rattle.form_checks.proofs.Laws.{laws_of}
use Rattle.printing.proofs.Calls.{lines_text, no_lines_text, no_text, lines_fit}
use Rattle.printing.proofs.put_derivation.Statement.{statement}
use Rattle.printing.proofs.put_derivation.Tie as tie

pub put_derivation_spec : {M : Type 1} → statement M
put_derivation_spec =
    tie.close
    (tie.spec
    -- slice-aggregate-derivation-in
    (λ c. search rules)
    -- derivation-in-requires
    (λ c κs. search rules)
    -- enum_told
    (λ c. search rules)
    -- slice-aggregate-put-lines
    (λ c. search rules)
    -- put-lines-requires
    (λ c κs.
    let fits = lines_fit (form_of c.args.three) _ _ _ _ _ c.derivation_in.ensures (length-replicate {A = ℕ} 64002 0)
    (laws_of c.args.three) c.in-Refuted.is c.derivation_in.auto.buffer in
    (omega arith, fits))
    -- enum-known-k
    (λ c. search rules)
    -- put-refusal-requires
    (λ c κs. search rules)
    -- enum-told-2
    (λ c. search rules)
    -- same-length
    (λ c. search rules)
    -- returns
    (λ c. (
      writes_as (lines_text (form_of c.args.three) _ _ _ _ _ c.derivation_in.ensures
          (length-replicate {A = ℕ} 64002 0) c.in-Refuted.is) c.put_lines.ensures.0,
      c.put_lines.ensures.1,
    ))
    -- same-length-2
    (λ c. search rules)
    -- returns-2
    (λ c. (
      writes_as (no_lines_text (form_of c.args.three) _ _ _ _ _
          c.derivation_in.ensures (length-replicate {A = ℕ} 64002 0) _ _ c.in-Refused.is) c.put_refusal.ensures.0,
      omega (arith, c.put_refusal.ensures.1),
    ))
    -- returns-3
    (λ c. (
      writes_as (no_text (form_of c.args.three) _ _ _ _ _ c.derivation_in.ensures
          (length-replicate {A = ℕ} 64002 0) c.in-Satisfiable.is) (writes_none _ _),
      omega arith,
    )))
