-- Between literals and what they mean in a heap (02, R-10; 001, Sect. 3.2).
use Rattle.std.specs.Prelude.{ℕ, ◌≤◌, ◌<◌, ◌≡◌, Bool}
use mathlib.Core.List.{List, Memᴰ}
use Rattle.logic.specs.Query.{Entries, Query}
use Rattle.logic.specs.Heap.{Heap, iterate, Signed, value, Meets}

-- "sign, x, y, z"
pub record BetweenLiteral : Type 0 where
  pub plain : Bool
  pub from : ℕ
  pub middle : ℕ
  pub to : ℕ

-- A query of six sections: the five of 01, and "a sixth section of up to 60 such literals".
pub record BetweenQuery : Type 0 where
  pub base : Query
  pub betweens : List BetweenLiteral

-- "following links from x .. met", with the "least step count": w is met after k links from v, and not before
pub record MetAfter (f : ℕ → ℕ) (v w k : ℕ) : Type 0 where
  pub met : iterate f k v ≡ w
  pub least : (j : ℕ) → j < k → iterate f j v ≡ w → ⊥

-- "y comes between x and z": "following links from x both are met, and y's least step count is not above z's"
pub record Between (f : ℕ → ℕ) (x y z : ℕ) : Type 0 where
  pub steps : ℕ
  pub steps_to : ℕ
  pub middle_met : MetAfter f x y steps
  pub to_met : MetAfter f x z steps_to
  pub not_above : steps ≤ steps_to

-- the links followed are those numbered 1: the six sections know no other
abbrev pub MeansBetween : Heap → Entries → BetweenLiteral → Type 0
MeansBetween h entries l =
    Signed l.plain (Between (h.link 1) (value h entries l.from) (value h entries l.middle) (value h entries l.to))

-- the heap meets every literal of the six sections
pub record MeetsBetween (h : Heap) (q : BetweenQuery) : Type 0 where
  pub meets : Meets h q.base
  pub betweens : (l : BetweenLiteral) → Memᴰ l q.betweens → MeansBetween h q.base.entries l

abbrev pub SatisfiableBetween : BetweenQuery → Type 0
SatisfiableBetween q = (h : Heap) × MeetsBetween h q
