-- Examples at the edges of the formats, where no theorem pins a number, a place, a limit or a bit. Every number and byte expected here is
-- written out from 01's sentences and not computed by the definitions that it is held against.
use Rattle.std.specs.Prelude.{ℕ, suc, ◌≡◌, true, List, [], ◌∷◌, ◌++◌, map, replicate, take, drop}
use Rattle.logic.specs.Search.{from, all, flat_map}
use Rattle.logic.specs.Query.{decode}
use Rattle.logic.specs.Facts.{line, start}
use Rattle.logic.specs.Walk.{Ending, refutation, order_of, walk, limit}
use Rattle.logic.specs.Calls.{Input, Answer, Outcome, refused, satisfiable, refuted, accepts, verdict_call, derivation_of, derivation_call}
use Rattle.logic.specs.Examples.{in_order}

-- An input, and what each call answers and leaves in as many bytes as are lent to it.
pub record Edge : Type 0 where
  pub input : Input
  pub verdict : Outcome
  pub derivation : Outcome

unfoldable pub leaves : Answer → List ℕ → Outcome
leaves answer bytes = record { answer = answer; lent = bytes }

unfoldable pub zeros : ℕ → List ℕ
zeros k = replicate k 0

-- "All bytes of a lent report, or of any other lent output, are zero after a refusal."
unfoldable pub refused_in : ℕ → ℕ → ℕ → Outcome
refused_in room number place = leaves (refused number place) (zeros room)

-- order list, query and room; the verdict call's outcome; the derivation call's outcome
unfoldable pub edge : List ℕ → List ℕ → ℕ → Outcome → Outcome → Edge
edge order query room verdict derivation =
    record { input = record { order = order; query = query; room = room }; verdict = verdict; derivation = derivation }

-- both calls refuse: order list, query, room, the refusal's number and place
unfoldable pub refuses : List ℕ → List ℕ → ℕ → ℕ → ℕ → Edge
refuses order query room number place =
    edge order query room (refused_in room number place) (refused_in room number place)

-- both calls refuse the query, and in four bytes, so that each refusal is seen to come before 9 and 12
unfoldable pub fault : List ℕ → ℕ → ℕ → Edge
fault query number place = refuses in_order query 4 number place

-- what the definitions give for a row
unfoldable pub computed : Edge → Edge
computed e = record { input = e.input; verdict = verdict_call e.input; derivation = derivation_call e.input }

abbrev pub Hold : List Edge → Type 0
Hold rows = map computed rows ≡ rows

-- A query of 19 bytes with two terms, an equality, a reachability literal and two data literals. Its counts stand at 0, 3, 7, 11 and 18, its
-- terms at 1 and 2, its signs at 4, 8, 12 and 15, term numbers at 5, 6, 9, 10, 14 and 17, and the fields at 13 and 16.
unfoldable pub sample : List ℕ
sample = 2 ∷ 0 ∷ 1 ∷ 1 ∷ 0 ∷ 1 ∷ 2 ∷ 1 ∷ 1 ∷ 1 ∷ 2 ∷ 2 ∷ 1 ∷ 8 ∷ 2 ∷ 0 ∷ 7 ∷ 1 ∷ 0 ∷ []

-- a byte put in place of another
unfoldable pub changed : ℕ → ℕ → List ℕ → List ℕ
changed place byte query = take place query ++ (byte ∷ drop (suc place) query)

-- this byte at this place of the sample is refused, there
unfoldable pub spoilt : ℕ → ℕ → ℕ → Edge
spoilt place byte number = fault (changed place byte sample) number place

-- the same entry some times over
unfoldable pub times : ℕ → List ℕ → List ℕ
times k entry = flat_map (λ i. entry) (from k 1)

-- Refusals, one row for each limit of the layout and for each that a slip in the definitions moves: number, place and which comes first. The gate's data have
-- many more (tests/data/edge-calls.txt).
unfoldable pub refused_rows : List Edge
refused_rows =
    -- "2. The query ends .. inside a section (place: its length)"
    fault (take 5 sample) 2 5
    -- "3. A count is above its section's limit (place: that count ..)": 17 terms, and 61 literals in each of sections 2 to 4
    ∷ fault (17 ∷ (zeros 17 ++ zeros 4)) 3 0
    ∷ fault (1 ∷ 0 ∷ 61 ∷ (times 61 (1 ∷ 1 ∷ 1 ∷ []) ++ zeros 3)) 3 2
    ∷ fault (1 ∷ 0 ∷ 0 ∷ 61 ∷ (times 61 (1 ∷ 1 ∷ 1 ∷ []) ++ zeros 2)) 3 3
    ∷ fault (1 ∷ 0 ∷ 0 ∷ 0 ∷ 61 ∷ (times 61 (1 ∷ 1 ∷ 1 ∷ []) ++ zeros 1)) 3 4
    -- "26 a boolean count above 0 (that count's place), instead of 3" (02, R-13)
    ∷ spoilt 18 1 26
    -- "5 lets 255 through" (02, R-3), and no other byte
    ∷ spoilt 2 254 5
    -- "For 5 to 8 the whole query is searched for one fault before the next": 5 before 6, and 7 before 8 although it stands behind it
    ∷ fault (changed 2 2 (changed 4 2 sample)) 5 2
    ∷ fault (changed 13 9 (changed 14 0 sample)) 7 14
    ∷ []

-- the longest query, 561 bytes: 16 terms and 60 literals in each of sections 2 to 4 pass
unfoldable pub longest : List ℕ
longest =
    16 ∷ (zeros 16
    ++ (60 ∷ (times 60 (0 ∷ 1 ∷ 16 ∷ [])
    ++ (60 ∷ (times 60 (1 ∷ 16 ∷ 1 ∷ []) ++ (60 ∷ (times 60 (1 ∷ 8 ∷ 16 ∷ []) ++ zeros 1)))))))

-- both calls in 53 bytes: a refuted query, with its derivation; a satisfiable one, with its report; each with the zeros past it
unfoldable pub derives : List ℕ → List ℕ → List ℕ → Edge
derives order query bytes = edge order query 53 (leaves refuted (zeros 53)) (leaves refuted bytes)

unfoldable pub shows : List ℕ → List ℕ → Edge
shows query bytes = edge in_order query 53 (leaves satisfiable bytes) (refused_in 53 11 0)

-- E2, and E5, which has two lines
unfoldable pub one_term : List ℕ
one_term = 1 ∷ zeros 5

unfoldable pub two_lines : List ℕ
two_lines = 1 ∷ 0 ∷ 0 ∷ 1 ∷ 0 ∷ 1 ∷ 1 ∷ 0 ∷ 0 ∷ []

-- Rooms, joins, nil and a basin.
unfoldable pub answered_rows : List Edge
answered_rows =
    -- "A 52-byte heap buffer: 9; 53 passes" (E10); "its buffer cannot hold it": two lines are ten bytes
    edge in_order one_term 52 (refused_in 52 9 0) (refused_in 52 11 0)
    ∷ shows one_term ((1 ∷ 1 ∷ 1 ∷ 1 ∷ 1 ∷ 0 ∷ 1 ∷ 0 ∷ []) ++ zeros 45)
    ∷ edge in_order two_lines 9 (refused_in 9 9 0) (refused_in 9 12 0)
    -- "every pair it joined, in order" (02, R-1): the pair asked for, then its doubled successors: 1=2, and f(1), f(2) differ
    ∷ derives in_order (4 ∷ 0 ∷ 0 ∷ 1 ∷ 2 ∷ 2 ∷ 1 ∷ 1 ∷ 2 ∷ 0 ∷ 3 ∷ 4 ∷ 0 ∷ 0 ∷ 0 ∷ [])
    ((0 ∷ 3 ∷ 10 ∷ 1 ∷ 2 ∷ 0 ∷ 10 ∷ 3 ∷ 4 ∷ 0 ∷ 9 ∷ 2 ∷ 2 ∷ 0 ∷ []) ++ zeros 39)
    -- "joining a term with itself does nothing" (01): 1=1, and not 1=1
    ∷ derives in_order (1 ∷ 0 ∷ 2 ∷ 1 ∷ 1 ∷ 1 ∷ 0 ∷ 1 ∷ 1 ∷ 0 ∷ 0 ∷ 0 ∷ []) ((0 ∷ 1 ∷ 9 ∷ 2 ∷ 2 ∷ 0 ∷ []) ++ zeros 47)
    -- "joins the nil terms to the lowest, ascending" (02, R-3): 1, 3 and 4, and 3 and 4 differ
    ∷ derives in_order (4 ∷ 255 ∷ 0 ∷ 255 ∷ 255 ∷ 1 ∷ 0 ∷ 3 ∷ 4 ∷ 0 ∷ 0 ∷ 0 ∷ [])
    ((0 ∷ 3 ∷ 10 ∷ 1 ∷ 3 ∷ 0 ∷ 10 ∷ 1 ∷ 4 ∷ 0 ∷ 9 ∷ 2 ∷ 1 ∷ 0 ∷ []) ++ zeros 39)
    -- "between section 1 and the equalities": the nil terms 2 and 3 before 1=3
    ∷ derives in_order (3 ∷ 0 ∷ 255 ∷ 255 ∷ 2 ∷ 1 ∷ 1 ∷ 3 ∷ 0 ∷ 2 ∷ 3 ∷ 0 ∷ 0 ∷ 0 ∷ [])
    ((0 ∷ 3 ∷ 10 ∷ 2 ∷ 3 ∷ 0 ∷ 10 ∷ 1 ∷ 2 ∷ 0 ∷ 9 ∷ 2 ∷ 2 ∷ 0 ∷ []) ++ zeros 39)
    -- "then adds nil's link and joins its doubled successors": f(nil) twice, and then nil itself
    ∷ derives in_order (3 ∷ 255 ∷ 1 ∷ 1 ∷ 1 ∷ 0 ∷ 1 ∷ 3 ∷ 0 ∷ 0 ∷ 0 ∷ [])
    ((0 ∷ 3 ∷ 10 ∷ 2 ∷ 3 ∷ 0 ∷ 10 ∷ 1 ∷ 2 ∷ 0 ∷ 9 ∷ 2 ∷ 1 ∷ 0 ∷ []) ++ zeros 39)
    -- "else the lowest term that begins a path without v": three terms that reach each other and differ
    ∷ shows (3 ∷ 0 ∷ 0 ∷ 0 ∷ 3 ∷ 0 ∷ 1 ∷ 2 ∷ 0 ∷ 1 ∷ 3 ∷ 0 ∷ 2 ∷ 3 ∷ 3 ∷ 1 ∷ 1 ∷ 2 ∷ 1 ∷ 2 ∷ 3 ∷ 1 ∷ 3 ∷ 1 ∷ 0 ∷ 0 ∷ [])
    ((3 ∷ 2 ∷ 3 ∷ 1 ∷ 3 ∷ 1 ∷ 2 ∷ 3 ∷ 3 ∷ 0 ∷ 0 ∷ 0 ∷ 1 ∷ 0 ∷ []) ++ zeros 39)
    ∷ []

-- the answer to a refutation of so many lines in so much room
unfoldable pub answer_to : ℕ → ℕ → Answer
answer_to lines room = (derivation_of room (refutation (replicate lines (line 1 1 0 0)))).answer

-- how our walk of E5 ends where a path may have at most k rule steps
unfoldable pub ends_after : ℕ → Ending
ends_after k = walk (decode two_lines) (order_of in_order) k (start (decode two_lines))

-- The statement: each row comes out as it is written.
pub record EdgeExamplesHold : Type 0 where
  pub rows_refused : Hold refused_rows
  pub longest_passes : accepts longest ≡ true
  pub rows_answered : Hold answered_rows
  -- "no path of any walk .. has more than n times n plus n rule steps" (02, R-5): two terms; and a path that needs one step and has it
  pub limit_counted : limit (decode sample) ≡ 6
  pub limit_kept : ends_after 1 ≡ refutation (line 1 1 0 0 ∷ line 9 3 1 0 ∷ [])
  -- "12. The derivation has more than 16,000 lines or its buffer cannot hold it": 64,002 bytes hold 16,000 lines
  pub lines_held : answer_to 16000 64002 ≡ refuted
  pub lines_not_held : answer_to 16000 64001 ≡ refused 12 0
  pub lines_above : answer_to 16001 70000 ≡ refused 12 0
