-- "one heap meets both with the pairs, and all nil terms of both, equal" (02, R-12), in the words of the two queries: a statement about a
-- heap and the values of either query's terms in it.
use Rattle.std.specs.Prelude.{ℕ, ◌≡◌, true}
use mathlib.Core.List.{List, Memᴰ}
use Rattle.logic.specs.Query.{Query, names_nil}
use Rattle.logic.specs.Heap.{Heap, value, Meets}
use Rattle.joining.specs.Pairs.{Pair}

-- The same heap, where variables are named by another team: nodes, links and fields stay.
unfoldable pub naming : Heap → (ℕ → ℕ) → Heap
naming h names = record { size = h.size; link = h.link; field = h.field; variable = names }

-- The heap meets the first query; with the second's variables named by `names` it meets the second.
pub record MeetsBoth (h : Heap) (names : ℕ → ℕ) (a b : Query) (ps : List Pair) : Type 0 where
  pub meets_first : Meets h a
  pub meets_second : Meets (naming h names) b
  pub pairs_equal : (p : Pair) → Memᴰ p ps → value h a.entries p.first ≡ value (naming h names) b.entries p.second
  pub nils_equal : (t u : ℕ) → names_nil a.entries t ≡ true → names_nil b.entries u ≡ true → value h a.entries t ≡ value (naming h names) b.entries u

abbrev pub OneHeap : Query → Query → List Pair → Type 0
OneHeap a b ps = (h : Heap) × (names : ℕ → ℕ) × MeetsBoth h names a b ps
