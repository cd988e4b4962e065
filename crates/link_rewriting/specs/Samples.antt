-- Samples, by hand: what the call answers and leaves (02, R-11).
use Rattle.std.specs.Prelude.{ℕ, ◌≡◌, List, [], ◌∷◌, ◌++◌, map, length}
use Rattle.logic.specs.Calls.{padded}
use Rattle.logic.specs.Calls as calls
use Rattle.logic.specs.EdgeExamples.{times}
use Rattle.encoding.specs.WritingCall.{Outcome, written, blank}
use Rattle.link_rewriting.specs.Call.{links_rewrite_call}

-- a query in the old layout, how many bytes are lent, and what the call answers and leaves
pub record Sample : Type 0 where
  pub query : List ℕ
  pub room : ℕ
  pub outcome : Outcome

abbrev pub rewrites : List ℕ → ℕ → List ℕ → Sample
rewrites query room bytes =
    record { query = query; room = room; outcome = record { answer = written (length bytes); lent = padded room bytes } }

abbrev pub refuses : List ℕ → ℕ → ℕ → ℕ → Sample
refuses query room k place = record { query = query; room = room; outcome = blank room (calls.refused k place) }

unfoldable pub samples : List Sample
samples =
    -- a variable, nil and f of each: "0 0 a variable, 0 255 nil", and link 1
    rewrites (4 ∷ 0 ∷ 255 ∷ 1 ∷ 2 ∷ 0 ∷ 0 ∷ 0 ∷ 0 ∷ []) 16
    (4 ∷ 0 ∷ 0 ∷ 0 ∷ 255 ∷ 1 ∷ 1 ∷ 1 ∷ 2 ∷ 0 ∷ 0 ∷ 0 ∷ 0 ∷ [])
    -- "sign, link, from, to"; an equality and a data literal stay as they are; in just its room, and with a byte less
    ∷ rewrites (2 ∷ 0 ∷ 1 ∷ 1 ∷ 0 ∷ 1 ∷ 2 ∷ 2 ∷ 1 ∷ 2 ∷ 1 ∷ 0 ∷ 1 ∷ 2 ∷ 1 ∷ 1 ∷ 8 ∷ 2 ∷ 0 ∷ []) 23
    (2 ∷ 0 ∷ 0 ∷ 1 ∷ 1 ∷ 1 ∷ 0 ∷ 1 ∷ 2 ∷ 2 ∷ 1 ∷ 1 ∷ 2 ∷ 1 ∷ 0 ∷ 1 ∷ 1 ∷ 2 ∷ 1 ∷ 1 ∷ 8 ∷ 2 ∷ 0 ∷ [])
    ∷ refuses (2 ∷ 0 ∷ 1 ∷ 1 ∷ 0 ∷ 1 ∷ 2 ∷ 2 ∷ 1 ∷ 2 ∷ 1 ∷ 0 ∷ 1 ∷ 2 ∷ 1 ∷ 1 ∷ 8 ∷ 2 ∷ 0 ∷ []) 22 27 0
    -- the longest
    ∷ rewrites ((16 ∷ times 16 (0 ∷ [])) ++ ((60 ∷ times 60 (1 ∷ 1 ∷ 2 ∷ [])) ++ ((60 ∷ times 60 (0 ∷ 16 ∷ 1 ∷ [])) ++ ((60 ∷ times 60 (1 ∷ 8 ∷ 2 ∷ [])) ++ (0 ∷ []))))) 637
    ((16 ∷ times 16 (0 ∷ 0 ∷ [])) ++ ((60 ∷ times 60 (1 ∷ 1 ∷ 2 ∷ [])) ++ ((60 ∷ times 60 (0 ∷ 1 ∷ 16 ∷ 1 ∷ [])) ++ ((60 ∷ times 60 (1 ∷ 8 ∷ 2 ∷ [])) ++ (0 ∷ [])))))
    -- the checks of the old layout: 26 is one of them
    ∷ refuses (0 ∷ 0 ∷ 0 ∷ 0 ∷ 1 ∷ 1 ∷ 1 ∷ []) 637 26 4
    ∷ []

-- what the definitions give for the samples
unfoldable pub computed : Sample → Sample
computed s = record { query = s.query; room = s.room; outcome = links_rewrite_call s.query s.room }

abbrev pub SamplesHold : Type 0
SamplesHold = map computed samples ≡ samples
