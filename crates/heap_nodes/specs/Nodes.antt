-- The nodes of the heap shown as the code holds them.
use Rattle.std.specs.Prelude.{ℕ, ◌+◌, ◌-◌, ◌≤◌, ◌≡◌, Bool, false, List, get_or, eqb}
use Rattle.logic.specs.Search.{from, select}
use Rattle.logic.specs.Shown.{or_zero, place_of}

-- the node of a term
unfoldable pub node_of : List ℕ → ℕ → ℕ
node_of nodes t = get_or nodes t 0

-- the numbers to n that are marked, ascending
unfoldable pub marked : List Bool → ℕ → List ℕ
marked marks n = select (λ t. get_or marks t false) (from (n + 1 - 0) 0)

-- the terms that are nodes, where each term was replaced so
unfoldable pub nodes_by : (ℕ → ℕ) → ℕ → List ℕ
nodes_by rep n = or_zero (select (λ t. eqb (rep t) t) (from (n + 1 - 1) 1))

-- the term-to-node list: each term's place among the terms that are nodes
abbrev pub Numbers : List ℕ → List ℕ → Type 0
Numbers nodes ts = (t : ℕ) → t ≤ 16 → node_of nodes t ≡ place_of t ts
