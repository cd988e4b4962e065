-- The promise of the call, against all heaps (02, R-10).
use Rattle.std.specs.Prelude.{ℕ, ◌≤◌, ◌<◌, ◌≡◌, ◌↔◌, true, List, [], ◌∷◌, ◌++◌, map, replicate}
use Rattle.logic.specs.Search.{from}
use Rattle.logic.specs.Query.{term_count}
use Rattle.logic.specs.Facts.{terms}
use Rattle.logic.specs.Heap.{Heap, value}
use Rattle.logic.specs.Shown.{heap_in, node_in, well_formed}
use Rattle.logic.specs.Calls.{Answer, Input, room_check, verdict_call}
use Rattle.logic.specs.Demands.{NotRefused, NoneStands, FirstStands, numbers}
use Rattle.between.specs.Meaning.{BetweenQuery, MeetsBetween, SatisfiableBetween}
use Rattle.between_search.specs.Bytes.{decode_six, six_checks, between_checks}
use Rattle.between_search.specs.Search.{most_nodes}
use Rattle.between_search.specs.Calls.{given, between_call}

-- the order of lists of numbers, compared number by number
pub data Before : List ℕ → List ℕ → Type 0 where
  lower : {x y : ℕ} {xs ys : List ℕ} → x < y → Before (x ∷ xs) (y ∷ ys)
  same : {x : ℕ} {xs ys : List ℕ} → Before xs ys → Before (x ∷ xs) (x ∷ ys)

-- "by node count, then successor list, then nodes of terms"
unfoldable pub rank : BetweenQuery → Heap → List ℕ
rank q h = (h.size ∷ map (h.link 1) (from h.size 1)) ++ map (value h q.base.entries) (terms (term_count q.base))

-- "shows the first that satisfies": the heap in these report bytes meets the query, has at most n nodes (1 if n is 0), and no heap that
-- meets the query comes before it
pub record ShowsFirst (q : BetweenQuery) (bytes : List ℕ) : Type 0 where
  pub meets : MeetsBetween (heap_in 1 bytes) q
  pub listed : (t : ℕ) → 1 ≤ t → t ≤ term_count q.base → value (heap_in 1 bytes) q.base.entries t ≡ node_in bytes t
  pub small : (heap_in 1 bytes).size ≤ most_nodes (term_count q.base)
  pub first : (h : Heap) → MeetsBetween h q → Before (rank q h) (rank q (heap_in 1 bytes)) → ⊥

pub record BetweenPromised : Type 0 where
  -- each refusal is the first in checking order that stands, and leaves zeros
  pub refused_exactly : (query : List ℕ) (room k place : ℕ) → ((between_call query room).answer ≡ Answer.refused k place) ↔ FirstStands between_checks (given query room) k place
  pub refusal_blank : (query : List ℕ) (room k place : ℕ) → (between_call query room).answer ≡ Answer.refused k place → (between_call query room).lent ≡ replicate room 0
  -- "Checks: 2 to 9 over six sections .., then 21 more than five terms"; 26 stands where R-13 has it. 21 exactly where none of the others
  -- stands and the query has more than five terms, 9 exactly where none of the bytes' checks stands and the report has fewer than 53 bytes
  pub checks_in_order : numbers between_checks ≡ 2 ∷ 3 ∷ 26 ∷ 4 ∷ 5 ∷ 6 ∷ 7 ∷ 8 ∷ 9 ∷ 21 ∷ []
  pub many_terms_exactly : (query : List ℕ) (room place : ℕ) → ((between_call query room).answer ≡ Answer.refused 21 place) ↔ ((place ≡ 0) × NoneStands (six_checks ++ (room_check ∷ [])) (given query room) × (5 < term_count (decode_six query).base))
  pub little_room_exactly : (query : List ℕ) (room place : ℕ) → ((between_call query room).answer ≡ Answer.refused 9 place) ↔ ((place ≡ 0) × NoneStands six_checks (given query room) × (room < 53))
  -- a heap exactly where some finite heap of any size meets the query, and the one shown is the first
  pub heap_exactly : (query : List ℕ) (room : ℕ) → NotRefused (between_call query room).answer → ((between_call query room).answer ≡ Answer.satisfiable) ↔ SatisfiableBetween (decode_six query)
  pub heap_first : (query : List ℕ) (room : ℕ) → (between_call query room).answer ≡ Answer.satisfiable → ShowsFirst (decode_six query) (between_call query room).lent
  pub report_formed : (query : List ℕ) (room : ℕ) → (between_call query room).answer ≡ Answer.satisfiable → well_formed 1 (between_call query room).lent ≡ true
  -- ""None", with an all-zero report, must mean no finite heap of any size"
  pub none_exactly : (query : List ℕ) (room : ℕ) → NotRefused (between_call query room).answer → ((between_call query room).answer ≡ Answer.refuted) ↔ (SatisfiableBetween (decode_six query) → ⊥)
  pub none_blank : (query : List ℕ) (room : ℕ) → (between_call query room).answer ≡ Answer.refuted → (between_call query room).lent ≡ replicate room 0
  -- "On queries with no between literal it shares the verdict of the rule walk": the same five sections, with an empty sixth
  pub shares_verdict : (i : Input) (room : ℕ) → NotRefused (verdict_call i).answer → NotRefused (between_call (i.query ++ (0 ∷ [])) room).answer → (between_call (i.query ++ (0 ∷ [])) room).answer ≡ (verdict_call i).answer
