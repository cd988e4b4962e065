-- What a call answers that writes a query for the one that it is given, and every byte of what is lent, on every input.
use Rattle.std.specs.Prelude.{ℕ, ◌≡◌, ◌↔◌, Bool, true, not, List, [], ◌∷◌, ◌++◌, length, replicate}
use Rattle.std.proofs.Math.Option.{Option-elim}
use Rattle.logic.specs.Search.{keep, is_some}
use Rattle.logic.specs.Query.{Form}
use Rattle.logic.specs.Calls.{Input, Check, form_checks, refusal_of, padded}
use Rattle.logic.specs.Calls as calls
use Rattle.logic.specs.Demands.{NoneStands, FirstStands}

-- The length of the query that is written, or a refusal's number and place.
pub data Answer : Type 0 where
  written : ℕ → Answer
  refused : ℕ → ℕ → Answer

pub record Outcome : Type 0 where
  pub answer : Answer
  pub lent : List ℕ

-- The form of the queries that the call takes, whether there is room for what it writes in so many lent bytes, and the bytes that it writes.
pub record Writing : Type 0 where
  pub form : Form
  pub has_room : ℕ → List ℕ → Bool
  pub made : List ℕ → List ℕ

-- bytes alone, as the checks take them
abbrev pub given : List ℕ → ℕ → Input
given bytes room = record { order = []; query = bytes; room = room }

-- "A query is accepted if it passes checks 2 to 8": those of its form
unfoldable pub accepts_in : Form → List ℕ → Bool
accepts_in form bytes = not (is_some (refusal_of (form_checks form) (given bytes 0)))

-- 27, no room. "the place is 0 .. for each later refusal that names none" (01)
unfoldable pub room_check : Writing → Check
room_check w = record { number = 27; place = λ i. keep (not (w.has_room i.room i.query)) 0 }

unfoldable pub writing_checks : Writing → List Check
writing_checks w = form_checks w.form ++ (room_check w ∷ [])

-- a check gives no verdict
unfoldable pub refusal : calls.Answer → Answer
refusal (calls.refused k place) = refused k place
refusal calls.satisfiable = refused 0 0
refusal calls.refuted = refused 0 0

-- "All bytes of a lent report, or of any other lent output, are zero after a refusal." (01)
unfoldable pub blank : ℕ → calls.Answer → Outcome
blank room a = record { answer = refusal a; lent = replicate room 0 }

-- "Later calls that write a text or a query answer its length, with zeros past it." (01)
unfoldable pub writes : ℕ → List ℕ → Outcome
writes room bytes = record { answer = written (length bytes); lent = padded room bytes }

unfoldable pub writing_call : Writing → List ℕ → ℕ → Outcome
writing_call w bytes room =
    let result : Outcome = writes room (w.made bytes) in
    Option-elim (refusal_of (writing_checks w) (given bytes room)) result (blank room)

-- How such a call refuses, where this is what it means that there is no room. For every input:
pub record WritingRefusals (w : Writing) (NoRoom : ℕ → List ℕ → Type 0) (bytes : List ℕ) (room : ℕ) : Type 0 where
  -- each refusal under its own stated condition only: the first in checking order whose condition stands
  pub first_exactly : (k place : ℕ) → ((writing_call w bytes room).answer ≡ refused k place) ↔ FirstStands (writing_checks w) (given bytes room) k place
  -- 27 exactly where the checks of the query pass and there is no room
  pub no_room_exactly : (place : ℕ) → ((writing_call w bytes room).answer ≡ refused 27 place) ↔ ((place ≡ 0) × (accepts_in w.form bytes ≡ true) × NoRoom room bytes)
  -- a query is written exactly where no check stands, and its length is answered
  pub written_exactly : (n : ℕ) → ((writing_call w bytes room).answer ≡ written n) ↔ (NoneStands (writing_checks w) (given bytes room) × (n ≡ length (w.made bytes)))
  -- a refusal leaves zero in all that was lent, and the call fills just that in any case
  pub refusal_blank : (k place : ℕ) → (writing_call w bytes room).answer ≡ refused k place → (writing_call w bytes room).lent ≡ replicate room 0
  pub lent_whole : length (writing_call w bytes room).lent ≡ room
