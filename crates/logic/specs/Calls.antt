-- What the two calls answer, and every byte of what is lent, on every input (01, "Refusals, in checking order").
use Rattle.std.specs.Prelude.{ℕ, ◌+◌, ◌*◌, ◌-◌, Bool, not, cond, List, [], ◌∷◌, ◌++◌, length, replicate, ltb}
use Rattle.std.proofs.Math.Option.{Option, none, some, Option-elim}
use Rattle.logic.specs.Search.{◌or◌, keep, is_some, first_of}
use Rattle.logic.specs.Query.{Query, Form, sections, is_order, layout_fault, byte_fault, decode}
use Rattle.logic.specs.Walk.{Ending, refutation, saturation, our_walk}
use Rattle.logic.specs.Derivation.{derivation_bytes}
use Rattle.logic.specs.Shown.{report}

-- What a call is given: the order list, the query bytes, and how many bytes are lent for its output.
pub record Input : Type 0 where
  pub order : List ℕ
  pub query : List ℕ
  pub room : ℕ

-- A refusal that is met before the walk: its number and, where its condition stands, the place that it gives.
pub record Check : Type 0 where
  pub number : ℕ
  pub place : Input → Option ℕ

-- "1. The order list is not eight bytes with each of 1 to 8 once." "The place is 0 for 1 and 9 to 12."
unfoldable pub order_check : Check
order_check = record { number = 1; place = λ i. keep (not (is_order i.order)) 0 }

-- 2, 3, 26 and 4 are met by the walk from the front, and 5 to 8 by single bytes, of a query in whichever form a call takes.
unfoldable pub layout_check : Form → ℕ → Check
layout_check form k = record { number = k; place = λ i. layout_fault form k i.query }

unfoldable pub byte_check : Form → ℕ → Check
byte_check form k = record { number = k; place = λ i. byte_fault form k i.query }

unfoldable pub form_checks : Form → List Check
form_checks form =
    layout_check form 2 ∷ layout_check form 3 ∷ layout_check form 26 ∷ layout_check form 4
    ∷ byte_check form 5 ∷ byte_check form 6 ∷ byte_check form 7 ∷ byte_check form 8 ∷ []

-- "9. The heap report's buffer has fewer than 53 bytes, whichever the verdict would be": than so many
unfoldable pub room_under : ℕ → Check
room_under needed = record { number = 9; place = λ i. keep (ltb i.room needed) 0 }

abbrev pub room_check : Check
room_check = room_under 53

-- "A query is accepted if it passes checks 2 to 8 and any that a change puts among them": 26 (02, R-13)
unfoldable pub query_checks : List Check
query_checks = form_checks sections

-- What the two calls take: queries in the form of 01, or with three links (02, R-11). How many links there are, the checks of the query's
-- bytes, what the bytes say, the bytes that a report needs, and how long a query can be.
pub record CallForm : Type 0 where
  pub links : ℕ
  pub checks : List Check
  pub decode : List ℕ → Query
  pub room : ℕ
  pub longest : ℕ

-- the form of 01; the longest query had 681 bytes, of which 120 were booleans (02, R-13)
abbrev pub one_link_form : CallForm
one_link_form = record { links = 1; checks = query_checks; decode = decode; room = 53; longest = 561 }

-- "The verdict call uses 1 to 10. The derivation call uses 1 to 8 and 10 to 12"; 10 is withdrawn (02, R-5), and 11 and 12 are read off
-- the walk.
unfoldable pub verdict_checks_of : CallForm → List Check
verdict_checks_of f = order_check ∷ (f.checks ++ (room_under f.room ∷ []))

unfoldable pub derivation_checks_of : CallForm → List Check
derivation_checks_of f = order_check ∷ f.checks

-- The number and place of a refusal, or a verdict.
pub data Answer : Type 0 where
  refused : ℕ → ℕ → Answer
  satisfiable refuted : Answer

-- The answer of a call, and the bytes of the lent output after it.
pub record Outcome : Type 0 where
  pub answer : Answer
  pub lent : List ℕ

-- the first of the checks that stands
unfoldable pub refusal_of : List Check → Input → Option Answer
refusal_of cs i = first_of (λ c. Option-elim (c.place i) none (λ place. some (refused c.number place))) cs

-- "A query is accepted": room plays no part
unfoldable pub accepts_by : CallForm → List ℕ → Bool
accepts_by f query = not (is_some (refusal_of f.checks (record { order = []; query = query; room = 0 })))

-- "bytes past it are zero"
unfoldable pub padded : ℕ → List ℕ → List ℕ
padded room bytes = bytes ++ replicate (room - length bytes) 0

-- "All bytes of a lent report, or of any other lent output, are zero after a refusal."
unfoldable pub blank : ℕ → Answer → Outcome
blank room a = record { answer = a; lent = replicate room 0 }

-- what a call answers: the first check that stands, else what its walk says
unfoldable pub call : CallForm → List Check → (Ending → Outcome) → Input → Outcome
call f cs result i =
    let walked : Outcome = result (our_walk i.order (f.decode i.query)) in
    Option-elim (refusal_of cs i) walked (blank i.room)

-- "With "refuted" the whole heap report is zero."
unfoldable pub verdict_of : Query → ℕ → Ending → Outcome
verdict_of q room (saturation s) = record { answer = satisfiable; lent = padded room (report q s) }
verdict_of q room (refutation ls) = blank room refuted

unfoldable pub verdict_call_of : CallForm → Input → Outcome
verdict_call_of f i = call f (verdict_checks_of f) (verdict_of (f.decode i.query) i.room) i

-- "11. A derivation was asked for and the query is satisfiable. 12. The derivation has more than 16,000 lines or its buffer cannot
-- hold it."
unfoldable pub derivation_of : ℕ → Ending → Outcome
derivation_of room (saturation s) = blank room (refused 11 0)
derivation_of room (refutation ls) =
    cond (ltb 16000 (length ls) or ltb room (2 + 4 * length ls)) (blank room (refused 12 0))
    (record { answer = refuted; lent = padded room (derivation_bytes ls) })

unfoldable pub derivation_call_of : CallForm → Input → Outcome
derivation_call_of f i = call f (derivation_checks_of f) (derivation_of i.room) i

-- the two calls of 01
abbrev pub verdict_call : Input → Outcome
verdict_call = verdict_call_of one_link_form

abbrev pub derivation_call : Input → Outcome
derivation_call = derivation_call_of one_link_form

abbrev pub verdict_checks : List Check
verdict_checks = verdict_checks_of one_link_form

abbrev pub accepts : List ℕ → Bool
accepts = accepts_by one_link_form
