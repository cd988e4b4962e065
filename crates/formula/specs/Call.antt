-- What the formula call answers, and every byte of what is lent, on every input (02, R-7).
use Rattle.std.specs.Prelude.{ℕ, suc, ◌-◌, Bool, true, false, cond, List, [], ◌∷◌, length, replicate, ltb}
use Rattle.std.proofs.Math.Option.{Option-elim}
use Rattle.logic.specs.Query.{decode}
use Rattle.logic.specs.Calls.{verdict_checks, refusal_of, verdict_call}
use Rattle.logic.specs.Calls as calls
use Rattle.encoding.specs.QueryBytes.{encode}
use Rattle.formula.specs.Grammar.{Formula}
use Rattle.formula.specs.Expansion.{Conjunction, expand}
use Rattle.formula.specs.Meaning.{present, restricted}
use Rattle.formula.specs.Reader.{Reading, read_text}
use Rattle.formula.specs.Reader as reader

-- What the call is given: the order list, the query bytes, the text, and how many bytes are lent for the report.
pub record Input : Type 0 where
  pub order : List ℕ
  pub query : List ℕ
  pub text : List ℕ
  pub room : ℕ

-- "the answer is the first satisfiable conjunction's number (from 1) and its heap, or "refuted""
pub data Answer : Type 0 where
  refused : ℕ → ℕ → Answer
  refuted : Answer
  conjunction : ℕ → Answer

pub record Outcome : Type 0 where
  pub answer : Answer
  pub lent : List ℕ

unfoldable pub blank : ℕ → Answer → Outcome
blank room a = record { answer = a; lent = replicate room 0 }

-- the query of a conjunction, and the verdict call on it
unfoldable pub query_of : Input → Conjunction → List ℕ
query_of i c = encode (restricted (decode i.query) c)

unfoldable pub verdict_on : Input → Conjunction → calls.Outcome
verdict_on i c = verdict_call (record { order = i.order; query = query_of i c; room = i.room })

unfoldable pub is_satisfiable : calls.Answer → Bool
is_satisfiable calls.satisfiable = true
is_satisfiable calls.refuted = false
is_satisfiable (calls.refused k place) = false

-- the first satisfiable one of the conjunctions from number n on, with the bytes that the verdict call on it leaves
unfoldable pub first_of : Input → ℕ → List Conjunction → Outcome
first_of i n [] = blank i.room refuted
first_of i n (c ∷ cs) =
    let later : Outcome = first_of i (suc n) cs in
    cond (is_satisfiable (verdict_on i c).answer) (record { answer = conjunction n; lent = (verdict_on i c).lent }) later

-- "then 19 more than 64 conjunctions"
unfoldable pub decided : Input → Formula → Outcome
decided i f = cond (ltb 64 (length (expand f))) (blank i.room (refused 19 0)) (first_of i 1 (expand f))

unfoldable pub after_reading : Input → Reading → Outcome
after_reading i (reader.refused k at) = blank i.room (refused k (length i.text - length at))
after_reading i (reader.done f rest) = decided i f

-- "Checks: after 9, 17 text too long (place 512); then 17 .. and 18 ..; then 19"
unfoldable pub text_outcome : Input → Outcome
text_outcome i =
    cond (ltb 512 (length i.text)) (blank i.room (refused 17 512)) (after_reading i (read_text (present (decode i.query)) 32 i.text))

-- a refusal of the verdict call's checks
unfoldable pub as_refusal : calls.Answer → Answer
as_refusal (calls.refused k place) = refused k place
as_refusal calls.satisfiable = refuted
as_refusal calls.refuted = refuted

unfoldable pub formula_call : Input → Outcome
formula_call i =
    Option-elim (refusal_of verdict_checks (record { order = i.order; query = i.query; room = i.room })) (text_outcome i) (λ a. blank i.room (as_refusal a))
