-- What the call answers, case by case. Assumes nothing.
use Prim.Native.Nat.{ℕ, ◌≤◌, ◌<◌}
use native.Mathlib.Omega.{arith}
use mathlib.Core.Path.{◌≡◌, refl, ap, ◌∙◌, subst}
use mathlib.Core.Bool.{true, false}
use mathlib.Core.List.{List}
use Rattle.std.specs.Prelude.{Ok, Err}
use lib.ListN.{length, replicate, length-replicate}
use Rattle.logic.specs.Shown.{well_formed}
use Rattle.text.specs.Text.{Writes}
use Rattle.text.proofs.Writing.{writes_blank, writes_length}
use Rattle.drawing.specs.Text.{text}
use Rattle.drawing.specs.Call.{dot_call, written}
use Rattle.drawing.proofs.Answers.{call_unformed, call_short, call_written}
use Rattle.refusals.specs.Numbers.{refusal_at}
use Rattle.refusals.specs.declared.Fault.TheVariants as fault
use Rattle.dot.specs.Promise.{Does}

module _ (report bytes : List ℕ) (room : ℕ) where
  pub answer_unformed : well_formed 1 report ≡ false → bytes ≡ replicate room 0 → Does (dot_call report room) (Err (refusal_at fault.HeapReport 0)) bytes
  answer_unformed h e = rw (call_unformed report room h) (record { answers = refl; leaves = e })

  pub answer_short : well_formed 1 report ≡ true → room < length (text report) → bytes ≡ replicate room 0 → Does (dot_call report room) (Err (refusal_at fault.TextBuffer 0)) bytes
  answer_short h l e = rw (call_short report room h l) (record { answers = refl; leaves = e })

  pub answer-written : (r : ℕ) → well_formed 1 report ≡ true → length (text report) ≤ room → Writes (replicate room 0) 0 (text report) bytes r → Does (dot_call report room) (Ok r) bytes
  answer-written r h l w =
      let e = writes_blank w l in
      rw (call_written report room h l) (record { answers = ap written e.1; leaves = e.0 })

-- the text in a buffer that was cleared
module _ (report before blank after : List ℕ) (r : ℕ) (cleared : blank ≡ replicate (length before) 0) (w : Writes blank 0 (text report) after r) where
  pub drawn_length : length after ≡ length before
  drawn_length = writes_length w ∙ ap length cleared ∙ length-replicate (length before) 0

  pub drawn_blank : Writes (replicate (length before) 0) 0 (text report) after r
  drawn_blank = subst (λ (xs : List ℕ). Writes xs 0 (text report) after r) cleared w

  pub drawn_size : r ≡ length (text report)
  drawn_size = w.ends ∙ omega arith
