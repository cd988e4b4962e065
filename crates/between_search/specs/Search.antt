-- How the heap is looked for. That it is the first that satisfies, among all heaps, is a theorem (proofs/Promised).
use Rattle.std.specs.Prelude.{ℕ, zero, suc, ◌+◌, ◌-◌, Bool, true, false, not, cond, ◌&&◌, List, [], ◌∷◌, ◌++◌, map, get_or, eqb, ltb}
use Rattle.std.proofs.Math.Option.{Option, none, some}
use Rattle.logic.specs.Search.{from, any, is_some, first_of}
use Rattle.logic.specs.Query.{Literal, argument_of, term_count}
use Rattle.logic.specs.Shown.{byte_of}
use Rattle.logic.specs.Facts.{terms}
use Rattle.logic.specs.Calls.{padded}
use Rattle.between.specs.Meaning.{BetweenQuery}
use Rattle.between_search.specs.Tests.{used, breaks}

-- Numbers added to a list one by one, k of them from place i on: each from the lowest to the highest that is allowed there. A choice that
-- does not fit is left at once, with all that would follow it.
module _ {A : Type 0} (lowest highest : ℕ → List ℕ → ℕ) (fits : ℕ → List ℕ → Bool) (found : List ℕ → Option A) where
  unfoldable pub seek : ℕ → ℕ → List ℕ → Option A
  seek zero i xs = found xs
  seek (suc k) i xs =
      first_of
      (λ v.
      let ys : List ℕ = xs ++ (v ∷ []) in
      let rest : Option A = seek k (suc i) ys in
      cond (fits i ys) rest none)
      (from (highest i xs + 1 - lowest i xs) (lowest i xs))

-- A heap that was found: its node count and successors, and the term count and the nodes of the terms; zeros to 17 bytes.
pub record Found : Type 0 where
  pub links : List ℕ
  pub nodes : List ℕ

-- the number at a place, from 0
unfoldable pub entry : List ℕ → ℕ → ℕ
entry xs i = get_or xs i 0

-- the nodes that term t can name: any, but for f of a chosen term, which is not chosen again. Where heaps are looked for that differ in more
-- than the nodes' numbers (`sorted`), a node that is not named yet has the next number.
unfoldable pub lowest_node : BetweenQuery → (ℕ → ℕ) → ℕ → (ℕ → ℕ) → ℕ
lowest_node q link t node =
    let a : ℕ = argument_of q.base.entries t in
    cond (eqb a 0) 1 (link (node a))

unfoldable pub highest_node : BetweenQuery → Bool → ℕ → (ℕ → ℕ) → ℕ → (ℕ → ℕ) → ℕ
highest_node q sorted m link t node =
    let a : ℕ = argument_of q.base.entries t in
    let next : ℕ = used node (t - 1) + 1 in
    cond (eqb a 0) (cond (sorted && ltb next m) next m) (link (node a))

-- "then nodes of terms"
unfoldable pub seek_nodes : BetweenQuery → Bool → ℕ → List ℕ → ℕ → ℕ → List ℕ → Option Found
seek_nodes q sorted m links =
    seek
    (λ t nodes. lowest_node q (entry links) t (entry nodes))
    (λ t nodes. highest_node q sorted m (entry links) t (entry nodes))
    (λ t nodes. not (breaks q m (entry links) (entry nodes) (term_count q.base) t))
    (λ nodes. some (record { links = padded 17 links; nodes = padded 17 nodes }))

unfoldable pub nodes_found : BetweenQuery → Bool → ℕ → List ℕ → Option Found
nodes_found q sorted m links = let n : ℕ = term_count q.base in seek_nodes q sorted m links n 1 (n ∷ [])

-- "then successor list"
unfoldable pub seek_links : BetweenQuery → Bool → ℕ → ℕ → ℕ → List ℕ → Option Found
seek_links q sorted m = seek (λ j links. 1) (λ j links. m) (λ j links. true) (nodes_found q sorted m)

unfoldable pub links_found : BetweenQuery → Bool → ℕ → Option Found
links_found q sorted m = seek_links q sorted m m 1 (m ∷ [])

-- "by node count": of m nodes there is a heap only if there is one whose nodes are numbered as they are first named
unfoldable pub size_found : BetweenQuery → ℕ → Option Found
size_found q m = let first : Option Found = links_found q false m in cond (is_some (links_found q true m)) first none

-- "heaps of 1 up to n nodes (1 if n is 0)"
unfoldable pub most_nodes : ℕ → ℕ
most_nodes n = cond (eqb n 0) 1 n

unfoldable pub heap_found : BetweenQuery → Option Found
heap_found q = first_of (size_found q) (from (most_nodes (term_count q.base)) 1)

-- "data .. as before": "field j in bit j-1, set exactly by a plain literal"
unfoldable pub data_byte : List Literal → (ℕ → ℕ) → ℕ → ℕ
data_byte fields node v = byte_of (λ j. any (λ l. l.plain && eqb l.left j && eqb (node l.right) v) fields) 1 8

-- "Report, each section after its count: m successors; n nodes, one per term; m data bytes ..; one byte of booleans", which is 0 since no
-- query has any (02, R-13)
unfoldable pub report_of : BetweenQuery → Found → List ℕ
report_of q c =
    let m : ℕ = entry c.links 0 in
    let n : ℕ = term_count q.base in
    (m ∷ map (entry c.links) (terms m))
    ++ ((n ∷ map (entry c.nodes) (terms n))
    ++ ((m ∷ map (data_byte q.base.fields (entry c.nodes)) (terms m)) ++ (1 ∷ 0 ∷ [])))
