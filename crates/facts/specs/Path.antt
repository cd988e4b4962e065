-- The facts of a path that the code's arrays hold.
use Rattle.std.specs.Prelude.{ℕ, ◌≤◌, ◌<◌, ◌≡◌, Bool, false, cond, List, length, get_or, ltb, leb, eqb}
use Rattle.rows.specs.Square.{square}
use Rattle.link_rows.specs.Cube.{cube}
use Rattle.facts.specs.declared.Facts as code
use Rattle.logic.specs.Facts.{Graph, Facts}

-- what a term was replaced by; a number above 16 is no term, and is not replaced
unfoldable pub rep_of : List ℕ → ℕ → ℕ
rep_of rep t = cond (ltb t 17) (get_or rep t 0) t

-- the facts of one link in rows of its own
unfoldable pub graph_of : List ℕ → List ℕ → Graph
graph_of link reach = record { link = square link; reach = square reach }

-- no facts
unfoldable pub no_facts : Graph
no_facts = record { link = λ a b. false; reach = λ a b. false }

-- the facts of link k in the rows of all links
unfoldable pub graph_in : List ℕ → List ℕ → ℕ → Graph
graph_in link reach k = record { link = cube link k; reach = cube reach k }

-- the facts of a single link or of three, by number: no other number has facts
unfoldable pub graphs : Bool → List ℕ → List ℕ → ℕ → Graph
graphs single link reach k = cond (leb k (cond single 1 3)) (graph_in link reach k) no_facts

-- the path that these arrays hold, of a single link or of three
abbrev pub path_as : Bool → List ℕ → List ℕ → List ℕ → Facts
path_as single rep link reach = record { rep = rep_of rep; links = cond single 1 3; graph = graphs single link reach }

unfoldable pub path_of : code.Facts → Facts
path_of s = path_as s.single s.rep s.link s.reach

-- arrays of the size that the code gives them: those that are lent to be written do not tell it
pub record Whole (rep link reach : List ℕ) : Type 0 where
  pub of_rep : length rep ≡ 17
  pub of_link : length link ≡ 51
  pub of_reach : length reach ≡ 51

-- a graph with these links alone: what reads only links asks no more
unfoldable pub links_in : List ℕ → Graph
links_in link = record { link = square link; reach = λ a b. false }

-- the same of link k, in the rows of all links
unfoldable pub links_by : List ℕ → ℕ → Graph
links_by link k = record { link = cube link k; reach = λ a b. false }

-- a path with these representatives and no facts: what reads only these asks no more
unfoldable pub replaced_by : List ℕ → Facts
replaced_by rep = record { rep = rep_of rep; links = 1; graph = λ i. no_facts }

-- what each term was replaced by, once hi is replaced by lo
unfoldable pub replace_rep : ℕ → ℕ → (ℕ → ℕ) → ℕ → ℕ
replace_rep lo hi rep t = cond (eqb (rep t) hi) lo (rep t)

-- a link of the path, by its number
abbrev pub HasLink : Facts → ℕ → Type 0
HasLink s k = (0 < k) × (k ≤ s.links)
