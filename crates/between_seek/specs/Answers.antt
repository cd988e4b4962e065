-- The code's answers in the words of the definitions.
use Rattle.std.specs.Prelude.{ℕ, ◌+◌, ◌*◌, ◌≤◌, ◌<◌, ◌≡◌, Bool, List, Option, Some, None, length, take}
use Rattle.std.proofs.Math.Option as logic
use Rattle.logic.specs.Query.{decode, argument_of}
use Rattle.logic.specs.Calls.{padded}
use Rattle.query.specs.declared.Layout.{Layout}
use Rattle.query.specs.LaysOut.{LaysOut}
use Rattle.between.specs.Meaning.{BetweenQuery}
use Rattle.between_search.specs.Bytes.{triples}
use Rattle.between_search.specs.Search.{Found, entry}
use Rattle.between_tests.specs.Tables.{Small, Stepped, Opposed, literals_in}
use Rattle.between_seek.specs.declared.Heap.{Heap}
use Rattle.between_seek.specs.declared.Sought.{Sought}
use Rattle.between_seek.specs.declared.Linked.{Linked}

-- a query whose first five sections and whose between literals stand in two slices
abbrev pub query_in : List ℕ → List ℕ → BetweenQuery
query_in base between = record { base = decode base; betweens = triples between }

abbrev pub found_of : Option Heap → logic.Option Found
found_of (Some h) = logic.some (record { links = h.links; nodes = h.nodes })
found_of None = logic.none

-- a list that is chosen up to a place: zeros follow
abbrev pub Chosen : List ℕ → ℕ → Type 0
Chosen xs i = xs ≡ padded 17 (take i xs)

-- the sections' places, at most five terms, and a term's argument is below it
pub record Entered (base : List ℕ) (l : Layout) : Type 0 where
  pub laid : LaysOut l base
  pub few : l.terms ≤ 5
  pub below : (t : ℕ) → 1 ≤ t → t ≤ l.terms → argument_of (decode base).entries t < t

-- What the search is given: these sections, the between literals, and the table of opposed terms.
pub record Given (base : List ℕ) (l : Layout) (between : List ℕ) (count : ℕ) (apart : List Bool) : Type 0 where
  pub entered : Entered base l
  pub between_fit : 4 * count ≡ length between
  pub opposed : Opposed apart (literals_in base l.field_at l.field_count)

-- the same for heaps of a size, which has at most five nodes
pub record Sized (base between : List ℕ) (apart : List Bool) (q : Sought) : Type 0 where
  pub given : Given base q.l between q.count apart
  pub few_nodes : q.m ≤ 5

-- links and nodes of terms as the tests take them: small numbers, and the step counts of the links
pub record Tested (h : Linked) (nodes : List ℕ) : Type 0 where
  pub small_links : Small h.links
  pub small_nodes : Small nodes
  pub stepped : Stepped h.steps (entry h.links)

-- the links are chosen, and the nodes of the terms below t
pub record Placed (h : Linked) (nodes : List ℕ) (t : ℕ) : Type 0 where
  pub low : 1 ≤ t
  pub high : t ≤ h.q.l.terms + 1
  pub links_chosen : Chosen h.links (h.q.m + 1)
  pub nodes_chosen : Chosen nodes t
