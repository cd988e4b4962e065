-- What the joining call answers, and every byte of what is lent, on every input (02, R-12).
use Rattle.std.specs.Prelude.{ℕ, cond, List, [], length, replicate, leb}
use Rattle.std.proofs.Math.Option.{Option, Option-elim}
use Rattle.logic.specs.Search.{◌and◌}
use Rattle.logic.specs.Query.{Query, term_count, decode}
use Rattle.logic.specs.Calls.{query_checks, refusal_of, padded}
use Rattle.logic.specs.Calls as calls
use Rattle.joining.specs.Pairs.{pairs_of, is_pair_list}
use Rattle.encoding.specs.QueryBytes.{encode, within_limits}
use Rattle.joining.specs.Joined.{joined}

-- The length of the query that is written, or a refusal's number and place. Refusals 2 to 8 and 26 have a place in one of two queries, so that
-- the answer says in which.
pub data Answer : Type 0 where
  written : ℕ → Answer
  first_refused second_refused refused : ℕ → ℕ → Answer

pub record Outcome : Type 0 where
  pub answer : Answer
  pub lent : List ℕ

-- the checks of one query: 2 to 8, and 26 among them (02, R-13)
unfoldable pub query_refusal : List ℕ → Option calls.Answer
query_refusal bytes = refusal_of query_checks (record { order = []; query = bytes; room = 0 })

-- which query a refusal is about; a check gives no verdict
unfoldable pub of_first : calls.Answer → Answer
of_first (calls.refused k place) = first_refused k place
of_first calls.satisfiable = refused 0 0
of_first calls.refuted = refused 0 0

unfoldable pub of_second : calls.Answer → Answer
of_second (calls.refused k place) = second_refused k place
of_second calls.satisfiable = refused 0 0
of_second calls.refuted = refused 0 0

-- "All bytes of a lent report, or of any other lent output, are zero after a refusal." (01)
unfoldable pub blank : ℕ → Answer → Outcome
blank room a = record { answer = a; lent = replicate room 0 }

-- "24 a limit passed or output buffer too short". "Later calls that write a text or a query answer its length, with zeros past it." (01)
unfoldable pub fitted : ℕ → Query → Outcome
fitted room q =
    let bytes : List ℕ = encode q in
    cond (within_limits q and leb (length bytes) room) (record { answer = written (length bytes); lent = padded room bytes })
    (blank room (refused 24 0))

-- two queries that pass their checks: "23 a pair list of wrong length or count, or with a term its query lacks", then 24
unfoldable pub join_of : Query → Query → List ℕ → ℕ → Outcome
join_of a b pairs room =
    cond (is_pair_list (term_count a) (term_count b) pairs) (fitted room (joined a b (pairs_of pairs))) (blank room (refused 23 0))

-- "Checks: 2 to 8 for the first, then the second; 23 ..; 24 .."
unfoldable pub join_call : List ℕ → List ℕ → List ℕ → ℕ → Outcome
join_call first second pairs room =
    let joins : Outcome = join_of (decode first) (decode second) pairs room in
    let rest : Outcome = Option-elim (query_refusal second) joins (λ a. blank room (of_second a)) in
    Option-elim (query_refusal first) rest (λ a. blank room (of_first a))
