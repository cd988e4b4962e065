-- The code's tables and literals in the words of the definitions.
use Rattle.std.specs.Prelude.{ℕ, ◌+◌, ◌*◌, ◌/◌, ◌%◌, ◌≤◌, ◌<◌, ◌≡◌, Bool, false, List, get_or, take, drop, eqb}
use Rattle.logic.specs.Query.{Literal, literals}
use Rattle.between.specs.Meaning.{BetweenLiteral}
use Rattle.between_search.specs.Tests.{steps, opposed}
use Rattle.between_search.specs.Search.{entry}

-- numbers that a table of six rows has
abbrev pub Small : List ℕ → Type 0
Small xs = (i : ℕ) → entry xs i ≤ 5

-- a table of six rows is made up to an entry: from v to w it is at 6 * v + w
abbrev pub MadeTo : {A : Type 0} → (ℕ → ℕ → A) → A → List A → ℕ → Type 0
MadeTo g d table i = (j : ℕ) → j < i → get_or table j d ≡ g (j / 6) (j % 6)

-- the least step counts of these links
abbrev pub Stepped : List ℕ → (ℕ → ℕ) → Type 0
Stepped table link = (v w : ℕ) → v ≤ 5 → w ≤ 5 → get_or table (6 * v + w) 0 ≡ steps link v w

-- the terms that a data literal keeps apart
abbrev pub Opposed : List Bool → List Literal → Type 0
Opposed table fields = (a b : ℕ) → a ≤ 5 → b ≤ 5 → get_or table (6 * a + b) false ≡ opposed fields a b

-- the literals of a section that stands at a place
unfoldable pub literals_in : List ℕ → ℕ → ℕ → List Literal
literals_in bytes at count = literals (take (3 * count) (drop at bytes))

-- between literal i
abbrev pub triple_in : List ℕ → ℕ → BetweenLiteral
triple_in bytes i =
    record {
      plain = eqb (get_or bytes (4 * i) 0) 1;
      from = get_or bytes (4 * i + 1) 0;
      middle = get_or bytes (4 * i + 2) 0;
      to = get_or bytes (4 * i + 3) 0;
    }
