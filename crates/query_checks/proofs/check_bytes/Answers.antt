use Rattle.std.proofs.Common.{ℕ, zero, suc, ◌≡◌, ◌+◌, ◌<◌, [], ◌∷◌, get_or, arith, refl, sym, ◌∙◌, add_assoc}
use Rattle.refusals.specs.declared.Fault.{Fault}
use Rattle.refusals.specs.declared.Fault.TheVariants as fault
use Rattle.refusals.specs.Numbers.{number_of}
use Rattle.query_checks.proofs.Checks.{no_answer, byte_checks, laid_out, answer_some, answer_none}
use Rattle.rows.proofs.Loops.{first_end, first_here, first_next}
use Rattle.query_checks.proofs.check_bytes.Goals as goal

-- the faults that are looked for are 5 to 8
numbered : (i : ℕ) → i < 4 →
    number_of (get_or {A = Fault} (fault.TermByte ∷ fault.Sign ∷ fault.TermNumber ∷ fault.FieldNumber ∷ []) i fault.OrderList) ≡ 5 + i
numbered zero h = refl
numbered (suc zero) h = refl
numbered (suc (suc zero)) h = refl
numbered (suc (suc (suc zero))) h = refl
numbered (suc (suc (suc (suc i)))) h = absurd (omega arith)

pub returns-then-bytes_pass : goal.returns-then-bytes_pass
returns-then-bytes_pass c most excess few = (
  λ i q. byte_checks _ _ _ (laid_out _ _ c.requires most excess few) i q
      ∙ no_answer _ _ (c.bytes_pass.ensures most excess c.if-bytes_pass.true) _,
  refl,
)

pub loop-fault-init : goal.loop-fault-init
loop-fault-init c most excess few = byte_checks _ _ _ (laid_out _ _ c.requires most excess few)

pub returns-in-Some : goal.returns-in-Some
returns-in-Some c most excess few i q =
    let n = numbered c.loop-fault.fault-index c.loop-fault-test.true in
    rw (c.at.ensures, n)
    (c.loop-fault.invariant most excess few i q
    ∙ first_here _ _ _ _ (omega arith) (answer_some _ _ _ _ (sym (rw n at (c.in-Some.ensures most excess)))))

pub loop-fault-preserved : goal.loop-fault-preserved
loop-fault-preserved c most excess few i q =
    let n = numbered c.loop-fault.fault-index c.loop-fault-test.true in
    rw (← add_assoc 5 c.loop-fault.fault-index 1)
    (c.loop-fault.invariant most excess few i q
    ∙ first_next _ _ _ (omega arith) (answer_none _ _ _ (sym (rw n at (c.in_default.ensures most excess)))))

pub returns : goal.returns
returns c most excess few = (λ i q. c.loop-fault.invariant most excess few i q ∙ first_end _ _ _ (omega arith), refl)
