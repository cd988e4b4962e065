-- What is claimed of the call, as statements about the definitions (02, R-8), for any form of query that calls take (02, R-11).
use Rattle.std.specs.Prelude.{ℕ, ◌+◌, ◌*◌, ◌≤◌, ◌<◌, ◌≡◌, ◌↔◌, true, false, length, take}
use mathlib.Core.List.{List, [], ◌∷◌, ◌++◌, Memᴰ}
use Rattle.std.proofs.Math.Option.{some}
use Rattle.logic.specs.Search.{select}
use Rattle.logic.specs.Query.{Query}
use Rattle.logic.specs.Heap.{Satisfiable}
use Rattle.logic.specs.Facts.{Facts, Line, line}
use Rattle.logic.specs.Walk.{Pick, picked, splice, hand_row, hand_verdict}
use Rattle.logic.specs.Walk as walk
use Rattle.logic.specs.Derivation.{Derivation, derivation_bytes, lines_in}
use Rattle.logic.specs.Calls.{Input, CallForm, one_link_form, accepts_by, derivation_call_of}
use Rattle.logic.specs.Calls as calls
use Rattle.logic.specs.ThreeLinks.{three_link_form}
use Rattle.logic.specs.Demands.{FirstStands, numbers}
use Rattle.checking.specs.Fitting.{FirstWrong}
use Rattle.checking.specs.CheckCall.{accepted, wrong, refused, count_in, misshapen, check_call_of}
use Rattle.checking.specs.Hand.{is_vain, is_clash_line, Ends, HandWrites}

-- what a call's checks of the query are given
abbrev pub query_alone : List ℕ → Input
query_alone query = record { order = []; query = query; room = 0 }

-- a derivation "without the zeros past its lines"
abbrev pub unpadded : List ℕ → List ℕ
unpadded bytes = take (2 + 4 * count_in bytes) bytes

-- both byte strings pass their checks
abbrev pub Taken : CallForm → List ℕ → List ℕ → Type 0
Taken f query derivation = (accepts_by f query ≡ true) × (misshapen derivation ≡ false)

-- the four numbers of a line are bytes; those of all lines are
abbrev pub Bytes : Line → Type 0
Bytes (line a b c d) = (a < 256) × (b < 256) × (c < 256) × (d < 256)

abbrev pub AllBytes : List Line → Type 0
AllBytes lines = (l : Line) → Memᴰ l lines → Bytes l

-- "within 16,000 lines is accepted": so many lines, as bytes
abbrev pub WithinAccepted : CallForm → List ℕ → List Line → Type 0
WithinAccepted f query lines = length lines ≤ 16000 → check_call_of f query (derivation_bytes lines) ≡ accepted

-- the row of a hand's walk of these picks, and lines that it writes, which are accepted
abbrev pub row_after : CallForm → List ℕ → List Pick → List Facts
row_after f query picks = hand_row (f.decode query) picks

abbrev pub HandAccepted : CallForm → List ℕ → List Pick → List Line → Type 0
HandAccepted f query picks lines = HandWrites (f.decode query) picks lines × WithinAccepted f query lines

-- Of the call for one form, for every query and every derivation, bytes of any length:
pub record Claims (f : CallForm) : Type 0 where
  -- "accept exactly the full trees", the same that our own derivations are
  pub accepted_exactly : (query derivation : List ℕ) → (check_call_of f query derivation ≡ accepted) ↔ (Taken f query derivation × Derivation (f.decode query) (lines_in derivation))
  -- "Otherwise the first wrong line's number is given"
  pub wrong_exactly : (query derivation : List ℕ) (k : ℕ) → (check_call_of f query derivation ≡ wrong k) ↔ (Taken f query derivation × FirstWrong (f.decode query) (lines_in derivation) k)
  -- it is 1 up to "count plus 1 if the lines run out"
  pub wrong_placed : (query derivation : List ℕ) (k : ℕ) → check_call_of f query derivation ≡ wrong k → (1 ≤ k) × (k ≤ count_in derivation + 1)
  -- "Checks: 2 to 8, then 20", with those that `ChecksInOrder` adds: of the query the first in checking order whose condition stands; 20 only
  -- where none of these does
  pub refused_exactly : (query derivation : List ℕ) (k place : ℕ) → Memᴰ k (numbers f.checks)
      → (check_call_of f query derivation ≡ refused k place) ↔ FirstStands f.checks (query_alone query) k place
  pub shape_exactly : (query derivation : List ℕ) (place : ℕ) → (check_call_of f query derivation ≡ refused 20 place) ↔ ((place ≡ 0) × (accepts_by f query ≡ true) × (misshapen derivation ≡ true))
  pub refusal_numbered : (query derivation : List ℕ) (k place : ℕ) → check_call_of f query derivation ≡ refused k place → Memᴰ k (numbers f.checks ++ (20 ∷ []))
  -- "Accepted means that no finite heap meets the query", of any size
  pub accepted_sound : (query derivation : List ℕ) → check_call_of f query derivation ≡ accepted → Satisfiable (f.decode query) → ⊥
  -- "Whatever refutation our prover (without the zeros past its lines) .. writes": what the derivation call leaves in any buffer
  pub ours_accepted : (i : Input) → (derivation_call_of f i).answer ≡ calls.refuted → check_call_of f i.query (unpadded (derivation_call_of f i).lent) ≡ accepted
  -- ".. or a hand following the rules writes within 16,000 lines is accepted": after every list of picks that leaves the hand's walk refuted
  -- there are lines that the hand writes, and if they are so few, their bytes are accepted
  pub hand_accepted : (query : List ℕ) (picks : List Pick) → accepts_by f query ≡ true → hand_verdict (f.decode query) (row_after f query picks) ≡ some walk.refuted
      → (lines : List Line) × HandAccepted f query picks lines
  -- "(any one, with any plain partner)": and so whichever clashes end its paths
  pub hand_any_clash : (query : List ℕ) (picks : List Pick) (ends : List Line) → accepts_by f query ≡ true → Ends (f.decode query) (row_after f query picks) ends
      → (lines : List Line) × HandAccepted f query picks lines × (select is_clash_line lines ≡ ends)
  -- "Any other pick is vain: the row stays."
  pub vain_stays : (q : Query) (p : Pick) (row : List Facts) → is_vain q p row ≡ true → splice (picked q p) p.position row ≡ row
  -- "lines of four bytes": every number of a derivation fits one
  pub lines_bytes : (query : List ℕ) (lines : List Line) → accepts_by f query ≡ true → Derivation (f.decode query) lines → AllBytes lines

-- the numbers of the query's checks, in their order: 26 is among them (02, R-13), and with three links 22 (02, R-11)
pub record ChecksInOrder : Type 0 where
  pub query_checks_lem : numbers one_link_form.checks ≡ 2 ∷ 3 ∷ 26 ∷ 4 ∷ 5 ∷ 6 ∷ 7 ∷ 8 ∷ []
  pub link_query_checks : numbers three_link_form.checks ≡ 2 ∷ 3 ∷ 26 ∷ 4 ∷ 22 ∷ 5 ∷ 6 ∷ 7 ∷ 8 ∷ []
