-- What is claimed of the text, as statements about the definitions (02, R-2).
use Rattle.std.specs.Prelude.{ℕ, ◌-◌, ◌≤◌, ◌<◌, ◌≡◌, ◌↔◌, ◌⊎◌, true, false, List, ◌++◌, length, get_or, take, replicate}
use Rattle.logic.specs.Shown.{well_formed}
use Rattle.drawing.specs.Text.{report_size, text}
use Rattle.drawing.specs.Call.{written, refused, dot_call}
use Rattle.drawing.specs.Reader.{report_in}

-- "those zeros are not part of it": a report without the bytes past it
abbrev pub unpadded : List ℕ → List ℕ
unpadded bytes = take (report_size bytes) bytes

-- What the call is lent is bytes: each is below 256.
pub record Report (bytes : List ℕ) : Type 0 where
  pub formed : well_formed 1 bytes ≡ true
  pub below : (i : ℕ) → get_or bytes i 0 < 256

-- The most bytes that a text has.
abbrev pub longest : ℕ
longest = 508

-- How the call answers. For every input:
pub record Answers (bytes : List ℕ) (room : ℕ) : Type 0 where
  -- "Checks: 13 a report not well formed, then 14 buffer too short." Each under its own condition only, and its place is 0
  pub unformed_exactly : (place : ℕ) → ((dot_call bytes room).answer ≡ refused 13 place) ↔ ((place ≡ 0) × (well_formed 1 bytes ≡ false))
  pub short_exactly : (place : ℕ) → ((dot_call bytes room).answer ≡ refused 14 place) ↔ ((place ≡ 0) × (well_formed 1 bytes ≡ true) × (room < length (text bytes)))
  pub refusal_numbered : (k place : ℕ) → (dot_call bytes room).answer ≡ refused k place → (k ≡ 13) ⊎ (k ≡ 14)
  -- a text is written exactly where it fits, and one that just fits is
  pub written_exactly : (k : ℕ) → ((dot_call bytes room).answer ≡ written k) ↔ ((k ≡ length (text bytes)) × (well_formed 1 bytes ≡ true) × (length (text bytes) ≤ room))
  -- "All bytes .. of any other lent output, are zero after a refusal."
  pub refusal_blank : (k place : ℕ) → (dot_call bytes room).answer ≡ refused k place → (dot_call bytes room).lent ≡ replicate room 0
  -- "Later calls that write a text .. answer its length, with zeros past it."
  pub zeros_follow : (k : ℕ) → (dot_call bytes room).answer ≡ written k → (dot_call bytes room).lent ≡ text bytes ++ replicate (room - k) 0

pub record Claims : Type 0 where
  -- "text and report determine each other": reports with one text are one report, and one report has one text
  pub report_of_text : (a b : List ℕ) → well_formed 1 a ≡ true → well_formed 1 b ≡ true → text a ≡ text b → unpadded a ≡ unpadded b
  pub text_of_report : (a b : List ℕ) → well_formed 1 a ≡ true → well_formed 1 b ≡ true → unpadded a ≡ unpadded b → text a ≡ text b
  -- the reader gives the report back, and zeros behind a report are not seen
  pub text_gives_report : (a : List ℕ) → well_formed 1 a ≡ true → report_in (text a) ≡ unpadded a
  pub zeros_unseen : (bytes : List ℕ) (k : ℕ) → text (bytes ++ replicate k 0) ≡ text bytes
  -- no text is longer than `longest`, and one is as long
  pub text_longest : (a : List ℕ) → Report a → length (text a) ≤ longest
  pub longest_reached : (a : List ℕ) × Report a × (length (text a) ≡ longest)
  -- the refusals and what is written, and every byte of what is lent
  pub answers : (bytes : List ℕ) (room : ℕ) → Answers bytes room
