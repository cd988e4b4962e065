-- What is claimed of the rewriting with link 1, as statements about the definitions (02, R-11).
use Rattle.std.specs.Prelude.{ℕ, ◌≤◌, ◌<◌, ◌≡◌, ◌↔◌, true, List, [], ◌∷◌, length, take}
use Rattle.logic.specs.Query.{is_order, decode}
use Rattle.logic.specs.Heap.{Heap, Meets}
use Rattle.logic.specs.Calls.{Input, accepts, accepts_by, padded, verdict_call, verdict_call_of}
use Rattle.logic.specs.Demands.{numbers}
use Rattle.logic.specs.ThreeLinks.{decode_links, three_link_form}
use Rattle.encoding.specs.WritingCall.{Answer, writing_checks, WritingRefusals}
use Rattle.link_rewriting.specs.Call.{linked_of, linked_bytes, rewriting_links, links_rewrite_call}

-- the lent bytes are too few
abbrev pub NoRoom : ℕ → List ℕ → Type 0
NoRoom room bytes = room < length (linked_bytes bytes)

-- What is claimed of the n bytes that were written.
module _ (bytes : List ℕ) (room n : ℕ) where
  abbrev pub taken : List ℕ
  taken = take n (links_rewrite_call bytes room).lent

  pub record Written : Type 0 where
    -- they are the rewriting of a query that is accepted, and zeros follow
    pub accepted : accepts bytes ≡ true
    pub is_rewriting : taken ≡ linked_bytes bytes
    pub zeros_follow : (links_rewrite_call bytes room).lent ≡ padded room taken
    -- at most as many as the longest query with three links has
    pub within : n ≤ 637
    -- the calls for three links accept them, and they say the query with link 1
    pub links_accepted : accepts_by three_link_form taken ≡ true
    pub says : decode_links taken ≡ linked_of bytes
    -- the same heaps meet both queries
    pub same_heaps : (h : Heap) → Meets h (decode bytes) ↔ Meets h (decode_links taken)
    -- "A query in the old layout gives the verdict of its rewriting with link 1": the two verdict calls answer the same, each by any order list
    -- and with any room that its report needs
    pub same_verdict : (i j : Input) → i.query ≡ bytes → j.query ≡ taken → is_order i.order ≡ true → is_order j.order ≡ true → 53 ≤ i.room → 85 ≤ j.room → (verdict_call i).answer ≡ (verdict_call_of three_link_form j).answer

pub record Claims : Type 0 where
  pub checked_in_order : numbers (writing_checks rewriting_links) ≡ 2 ∷ 3 ∷ 26 ∷ 4 ∷ 5 ∷ 6 ∷ 7 ∷ 8 ∷ 27 ∷ []
  pub refusals : (bytes : List ℕ) (room : ℕ) → WritingRefusals rewriting_links NoRoom bytes room
  pub written : (bytes : List ℕ) (room n : ℕ) → (links_rewrite_call bytes room).answer ≡ Answer.written n → Written bytes room n
