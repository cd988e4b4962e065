-- What the call answers, and every byte of what is lent, on every input (02, R-2).
use Rattle.std.specs.Prelude.{ℕ, cond, List, length, replicate, ltb}
use Rattle.logic.specs.Shown.{well_formed}
use Rattle.logic.specs.Calls.{padded}
use Rattle.drawing.specs.Text.{text}

-- the text's length, or a refusal's number and place
pub data Answer : Type 0 where
  written : ℕ → Answer
  refused : ℕ → ℕ → Answer

pub record Outcome : Type 0 where
  pub answer : Answer
  pub lent : List ℕ

-- "All bytes of a lent report, or of any other lent output, are zero after a refusal." "the place is 0 for .. each later refusal that
-- names none"
unfoldable pub refusal : ℕ → ℕ → Outcome
refusal room k = record { answer = refused k 0; lent = replicate room 0 }

-- "Later calls that write a text or a query answer its length, with zeros past it." "14 buffer too short"
unfoldable pub drawn : ℕ → List ℕ → Outcome
drawn room t = cond (ltb room (length t)) (refusal room 14) (record { answer = written (length t); lent = padded room t })

-- "Checks: 13 a report not well formed, then 14 buffer too short."
unfoldable pub dot_call : List ℕ → ℕ → Outcome
dot_call report room = cond (well_formed 1 report) (drawn room (text report)) (refusal room 13)
