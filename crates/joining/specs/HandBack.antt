-- The hand-back: where the literal that a clash line names stands in one of the two lent queries (02, R-12).
use Rattle.std.specs.Prelude.{ℕ, ◌+◌, ◌-◌, ◌*◌, Bool, cond, List, [], length, get_or, take, drop, eqb, ltb, leb}
use Rattle.std.proofs.Math.Option.{Option-elim}
use Rattle.logic.specs.Search.{◌and◌}
use Rattle.logic.specs.Query.{Literal, Query, term_count, decode}
use Rattle.logic.specs.Calls as calls
use Rattle.joining.specs.Joined.{raised}
use Rattle.joining.specs.Call.{query_refusal}

-- A part of the first or the second query, by its offset and length; or a refusal, whose place is in the first, in the second, or in
-- neither.
pub data Handed : Type 0 where
  in_first in_second : ℕ → ℕ → Handed
  first_refused second_refused refused : ℕ → ℕ → Handed

-- the literals of section s, 2 to 4; another section has none
unfoldable pub literals_in : Query → ℕ → List Literal
literals_in q s = cond (eqb s 2) q.equalities (cond (eqb s 3) q.reachability (cond (eqb s 4) q.fields []))

-- a literal of the second query as it stands in the joined one, whose first n terms are the first's
unfoldable pub raised_in : ℕ → ℕ → Literal → Literal
raised_in n s l = cond (eqb s 4) (raised 0 n l) (raised n n l)

-- where the literals of section s begin in the bytes of a query: behind those of the sections before it, and one count more
unfoldable pub start_in : Query → ℕ → ℕ
start_in q s =
    let n : ℕ = term_count q in
    let second : ℕ = 3 * length q.equalities in
    let third : ℕ = 3 * length q.reachability in
    cond (eqb s 2) (n + 2) (cond (eqb s 3) (n + second + 3) (n + second + third + 4))

-- where literal k of it stands, counted from 1; each has three bytes
unfoldable pub place_in : Query → ℕ → ℕ → ℕ
place_in q s k = start_in q s + 3 * (k - 1)

-- k is one of the m places behind i
unfoldable pub is_among : ℕ → ℕ → ℕ → Bool
is_among i m k = ltb i k and leb k (i + m)

-- "25 .. the line does not begin with 9 or names no literal of either"
unfoldable pub hand_back_of : Query → Query → List ℕ → Handed
hand_back_of a b line =
    let s : ℕ = get_or line 1 0 in
    let k : ℕ = get_or line 2 0 in
    let i : ℕ = length (literals_in a s) in
    let found : Handed =
    cond (is_among 0 i k) (in_first (place_in a s k) 3)
    (cond (is_among i (length (literals_in b s)) k) (in_second (place_in b s (k - i)) 3) (refused 25 0)) in
    cond (eqb (get_or line 0 0) 9) found (refused 25 0)

-- which query a refusal is about; a check gives no verdict
unfoldable pub of_first : calls.Answer → Handed
of_first (calls.refused k place) = first_refused k place
of_first calls.satisfiable = refused 0 0
of_first calls.refuted = refused 0 0

unfoldable pub of_second : calls.Answer → Handed
of_second (calls.refused k place) = second_refused k place
of_second calls.satisfiable = refused 0 0
of_second calls.refuted = refused 0 0

-- "25, in the hand-back after 2 to 8 alone"; "a call beside it gives number and place"
unfoldable pub hand_back_call : List ℕ → List ℕ → List ℕ → Handed
hand_back_call first second line =
    let found : Handed = hand_back_of (decode first) (decode second) line in
    let rest : Handed = Option-elim (query_refusal second) found of_second in
    Option-elim (query_refusal first) rest of_first

-- "hand back that literal's own bytes from whichever of the two lent queries it came from". "A refused hand-back is an empty part".
unfoldable pub part_of : Handed → List ℕ → List ℕ → List ℕ
part_of (in_first at size) first second = take size (drop at first)
part_of (in_second at size) first second = take size (drop at second)
part_of (first_refused k place) first second = []
part_of (second_refused k place) first second = []
part_of (refused k place) first second = []
