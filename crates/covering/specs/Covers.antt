-- A path that holds the facts of another, in the terms that stand for them there.
use Rattle.std.specs.Prelude.{ℕ, ◌≤◌, ◌≡◌, Bool, true}
use Rattle.logic.specs.Facts.{Graph, Facts}
use Rattle.rows.specs.Bits.{bit}
use Rattle.rows.specs.Square.{row_of}

-- where a row has a number, another has what stands for it
abbrev pub RowHeld : ℕ → (ℕ → ℕ) → ℕ → Type 0
RowHeld row rep far = (b : ℕ) → b ≤ 16 → bit row b ≡ true → row_of far (rep b) ≡ true

-- where a relation holds, another does of what stands for both
abbrev pub RowsHeld : (ℕ → ℕ → Bool) → (ℕ → ℕ) → (ℕ → ℕ → Bool) → Type 0
RowsHeld f rep g = (a b : ℕ) → f a b ≡ true → g (rep a) (rep b) ≡ true

-- the same of the facts of one link
abbrev pub GraphHeld : Graph → (ℕ → ℕ) → Graph → Type 0
GraphHeld f rep g = RowsHeld f.link rep g.link × RowsHeld f.reach rep g.reach

-- what stands for a term stands for what it was replaced by
abbrev pub SameReps : (ℕ → ℕ) → (ℕ → ℕ) → Type 0
SameReps rep old = (t : ℕ) → t ≤ 16 → rep (old t) ≡ rep t

-- the path w holds the facts of s
pub record Covers (w s : Facts) : Type 0 where
  pub same_reps : SameReps w.rep s.rep
  pub links_held : (i : ℕ) → RowsHeld (s.graph i).link w.rep (w.graph i).link
  pub reach_held : (i : ℕ) → RowsHeld (s.graph i).reach w.rep (w.graph i).reach
