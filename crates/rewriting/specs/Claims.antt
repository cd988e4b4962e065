-- What is claimed of the rewriting, as statements about the definitions (02, R-13).
use Rattle.std.specs.Prelude.{ℕ, ◌≤◌, ◌<◌, ◌≡◌, ◌↔◌, ◌⊎◌, true, List, [], ◌∷◌, length, take}
use Rattle.logic.specs.Query.{Query, term_count, decode}
use Rattle.logic.specs.Heap.{Satisfiable}
use Rattle.logic.specs.Calls.{Input, accepts, padded, verdict_call}
use Rattle.logic.specs.Calls as calls
use Rattle.logic.specs.Demands.{NotRefused, numbers}
use Rattle.encoding.specs.QueryBytes.{encode}
use Rattle.encoding.specs.WritingCall.{Answer, refused, writing_checks, WritingRefusals}
use Rattle.rewriting.specs.OldQuery.{accepts_old, decode_old}
use Rattle.rewriting.specs.OldHeap.{SatisfiableOld}
use Rattle.rewriting.specs.Call.{rewrite_of, rewriting_old, rewrite_call}

-- "no room for the term, the literals or the output"
abbrev pub NoRoom : ℕ → List ℕ → Type 0
NoRoom room bytes =
    let q : Query = rewrite_of bytes in
    (16 < term_count q) ⊎ ((60 < length q.fields) ⊎ (room < length (encode q)))

-- How the call refuses. For every input:
pub record Refusals (bytes : List ℕ) (room : ℕ) : Type 0 where
  -- as every call that writes a query
  pub writing_refusals : WritingRefusals rewriting_old NoRoom bytes room
  -- "2 to 8 as they stood": no count of booleans meets 26 here
  pub never_retired : (place : ℕ) → (rewrite_call bytes room).answer ≡ refused 26 place → ⊥

-- What is claimed of the rewriting of an old query that passes its checks, whatever the room.
pub record Rewriting (bytes : List ℕ) : Type 0 where
  -- "Old and rewritten query have the same verdict under the old meaning."
  pub same_verdict : SatisfiableOld (decode_old bytes) ↔ Satisfiable (rewrite_of bytes)
  -- "others are copied": without boolean literals it is written byte for byte, and every call takes it as it stood
  pub copied : (decode_old bytes).booleans ≡ [] → encode (rewrite_of bytes) ≡ bytes
  pub accepted : (decode_old bytes).booleans ≡ [] → accepts bytes ≡ true

-- What is claimed of the n bytes that were written: w.
module _ (bytes : List ℕ) (room n : ℕ) where
  abbrev pub taken : List ℕ
  taken = take n (rewrite_call bytes room).lent

  pub record Written : Type 0 where
    -- they are the rewritten query, and zeros follow
    pub is_rewriting : taken ≡ encode (rewrite_of bytes)
    pub zeros_follow : (rewrite_call bytes room).lent ≡ padded room taken
    -- at most as many as the longest query has
    pub within : n ≤ 561
    -- every call accepts them, and they say the rewritten query
    pub accepted : accepts taken ≡ true
    pub says : decode taken ≡ rewrite_of bytes
    -- "Old and rewritten query have the same verdict under the old meaning": of the definitions, and of the verdict call
    pub same_verdict : SatisfiableOld (decode_old bytes) ↔ Satisfiable (decode taken)
    pub satisfiable_exactly : (i : Input) → i.query ≡ taken → NotRefused (verdict_call i).answer → ((verdict_call i).answer ≡ calls.satisfiable) ↔ SatisfiableOld (decode_old bytes)
    pub refuted_exactly : (i : Input) → i.query ≡ taken → NotRefused (verdict_call i).answer → ((verdict_call i).answer ≡ calls.refuted) ↔ (SatisfiableOld (decode_old bytes) → ⊥)

pub record Claims : Type 0 where
  pub checked_in_order : numbers (writing_checks rewriting_old) ≡ 2 ∷ 3 ∷ 26 ∷ 4 ∷ 5 ∷ 6 ∷ 7 ∷ 8 ∷ 27 ∷ []
  pub refusals : (bytes : List ℕ) (room : ℕ) → Refusals bytes room
  pub rewriting : (bytes : List ℕ) → accepts_old bytes ≡ true → Rewriting bytes
  pub written : (bytes : List ℕ) (room n : ℕ) → (rewrite_call bytes room).answer ≡ Answer.written n → Written bytes room n
