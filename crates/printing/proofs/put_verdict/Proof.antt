-- One text for each answer. Assumes nothing.
use Prim.Native.Nat.{ℕ}
use native.Mathlib.Omega.{arith}
use borrow.Author.Rules.{rules}
use mathlib.Core.Path.{◌≡◌, sym, subst}
use mathlib.Core.Bool.{true}
use lib.ListN.{replicate, length-replicate}
use Rattle.logic.specs.Shown.{well_formed}
use Rattle.text.proofs.Writing.{writes_then, writes_as}
use Rattle.call_limits.specs.Forms.{form_of}
use Rattle.form_checks.proofs.Laws.{laws_of}
use Rattle.prover.proofs.Demands.{report_formed}
use Rattle.printing.proofs.Calls.{sat_text_lem, unsat_text_lem, refused_text_lem, some-links}
use Rattle.printing.proofs.put_verdict.Statement.{statement}
use Rattle.printing.proofs.put_verdict.Tie as tie

pub put_verdict_spec : {M : Type 1} → statement M
put_verdict_spec =
    tie.close
    (tie.spec
    -- enum_told
    (λ c. search rules)
    -- put-bytes-requires
    (λ c κs. search rules)
    -- put-report-requires
    (λ c κs.
    let three = c.args.three in
    let some = some-links three c.args.links c.requires.0 in
    let formed = report_formed (form_of three) (laws_of three) _ _ (replicate (form_of three).room 0) _ _ c.requires.1 c.in-Satisfiable.is in
    (omega (arith, c.put_bytes-to.ensures.ends), some.0, some.1, subst (λ (k : ℕ). well_formed k c.args.report.now ≡ true) (sym c.requires.0) formed))
    -- enum-told-2
    (λ c. search rules)
    -- put-bytes-requires-2
    (λ c κs. search rules)
    -- put-derivation-requires
    (λ c κs. omega (arith, c.put_bytes-to-in-Refuted.ensures.ends))
    -- enum-known-answer
    (λ c. search rules)
    -- put-refusal-requires
    (λ c κs. search rules)
    -- same-length
    (λ c. search rules)
    -- returns
    (λ c.
    let three = c.args.three in
    let some = some-links three c.args.links c.requires.0 in (
      writes_as (sat_text_lem (form_of three) _ _ _ _ _ c.requires.1 (length-replicate (form_of three).room 0) c.in-Satisfiable.is)
          (writes_then c.put_bytes-to.ensures c.put_report.ensures.0),
      omega (arith, some.1, c.put_bytes-to.ensures.ends, c.put_report.ensures.1),
    ))
    -- same-length-2
    (λ c. search rules)
    -- returns-2
    (λ c. (
      writes_as (unsat_text_lem (form_of c.args.three) _ _ _ _ _ c.requires.1 (length-replicate (form_of c.args.three).room 0)
          c.in-Refuted.is) (writes_then c.put_bytes-to-in-Refuted.ensures c.put_derivation.ensures.0),
      omega (arith, c.put_bytes-to-in-Refuted.ensures.ends, c.put_derivation.ensures.1),
    ))
    -- same-length-3
    (λ c. search rules)
    -- returns-3
    (λ c. (
      writes_as (refused_text_lem (form_of c.args.three) _ _ _ _ _ c.requires.1 (length-replicate (form_of c.args.three).room 0) _ _
          c.in-Refused.is) c.put_refusal.ensures.0,
      omega (arith, c.put_refusal.ensures.1),
    )))
