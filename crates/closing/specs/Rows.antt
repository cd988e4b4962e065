-- Rows of reachability facts between those of a path and those that follow from it.
use Rattle.std.specs.Prelude.{ℕ, ◌≤◌, ◌≡◌, Bool, true, List}
use Rattle.logic.specs.Search.{◌and◌, ◌or◌}
use Rattle.logic.specs.Facts.{Graph}
use Rattle.logic.specs.Decision.{Follows}
use Rattle.rows.specs.Square.{square}

-- each fact of the rows follows; each of these facts is in the rows
abbrev pub Within : (ℕ → Bool) → (ℕ → ℕ → Bool) → (ℕ → ℕ → Bool) → List ℕ → Type 0
Within alive link reach rows = (a b : ℕ) → square rows a b ≡ true → Follows alive link reach a b

abbrev pub Above : (ℕ → ℕ → Bool) → List ℕ → Type 0
Above reach rows = (a b : ℕ) → reach a b ≡ true → square rows a b ≡ true

-- what REFLEX and TRANS1 conclude is in the rows
abbrev pub Seeded : (ℕ → Bool) → (ℕ → ℕ → Bool) → List ℕ → Type 0
Seeded alive link rows = ((a b : ℕ) → link a b ≡ true → square rows a b ≡ true) × ((a : ℕ) → a ≤ 16 → alive a ≡ true → square rows a a ≡ true)

-- the rows, once whoever reaches y reaches what y does
abbrev pub Passed : List ℕ → List ℕ → ℕ → Type 0
Passed later rows y = (a b : ℕ) → square later a b ≡ square rows a b or (square rows a y and square rows y b)

-- what TRANS2 concludes is in the rows
abbrev pub Onward : List ℕ → Type 0
Onward rows = (a b c : ℕ) → square rows a b ≡ true → square rows b c ≡ true → square rows a c ≡ true

-- the facts of a link, once REFLEX, TRANS1 and TRANS2 have no more to add
pub record LinkClosed (alive : ℕ → Bool) (g h : Graph) : Type 0 where
  pub same_link : h.link ≡ g.link
  pub reach_kept : (a b : ℕ) → g.reach a b ≡ true → h.reach a b ≡ true
  pub reach_follows : (a b : ℕ) → h.reach a b ≡ true → Follows alive g.link g.reach a b
  pub link_held : (a b : ℕ) → h.link a b ≡ true → h.reach a b ≡ true
  pub itself_held : (a : ℕ) → a ≤ 16 → alive a ≡ true → h.reach a a ≡ true
  pub onward_held : (a b c : ℕ) → h.reach a b ≡ true → h.reach b c ≡ true → h.reach a c ≡ true
