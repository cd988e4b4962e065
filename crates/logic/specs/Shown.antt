-- The heap shown, and the report's bytes (01, "The heap shown"; 000, Def. 4).
use Rattle.std.specs.Prelude.{ℕ, zero, suc, ◌+◌, ◌-◌, ◌*◌, ◌/◌, ◌%◌, Bool, not, cond, List, [], ◌∷◌, ◌++◌, map, length, get_or, eqb, ltb, leb}
use Rattle.std.proofs.Math.Option
use Rattle.logic.specs.Search.{◌and◌, ◌or◌, from, any, all, select, find, flat_map}
use Rattle.logic.specs.Query.{Query, term_count}
use Rattle.logic.specs.Heap.{Heap}
use Rattle.logic.specs.Facts.{Graph, Facts, link_numbers, terms, live_terms}
use Rattle.logic.specs.Rules.{next}

-- what v reaches, ascending
unfoldable pub reached : ℕ → Graph → ℕ → List ℕ
reached n g v = select (g.reach v) (terms n)

-- "all that v reaches reaches v back": what v reaches is then v's basin
unfoldable pub in_basin : ℕ → Graph → ℕ → Bool
in_basin n g v = all (λ u. g.reach u v) (reached n g v)

-- the terms of a basin that begin a path: no link from inside the basin leads there. Link 0 is none.
unfoldable pub heads : (ℕ → ℕ) → List ℕ → List ℕ
heads p basin = select (λ b. not (any (λ u. eqb (p u) b) basin)) basin

-- v is on the path from b, which has at most k links
unfoldable pub on_path : (ℕ → ℕ) → ℕ → ℕ → ℕ → Bool
on_path p v zero b = eqb b v
on_path p v (suc k) b = eqb b v or on_path p v k (p b)

-- "If they lie on one path of links, take its first term; else the lowest term that begins a path without v."
unfoldable pub basin_link : ℕ → (ℕ → ℕ) → List ℕ → ℕ → ℕ
basin_link n p basin v =
    let hs : List ℕ = heads p basin in
    cond (eqb (length hs) 1) (get_or hs 0 0) (Option.get_or (find (λ b. not (on_path p v n b)) hs) 0)

-- "the lowest u other than v that v reaches and that reaches every term v reaches, v alone excepted"
unfoldable pub tree_link : ℕ → Graph → ℕ → ℕ
tree_link n g v =
    Option.get_or (find (λ u. not (eqb u v) and all (λ w. eqb w v or g.reach u w) (reached n g v)) (reached n g v)) 0

-- the link of a remaining term v, where the links given so far are p
unfoldable pub new_link : ℕ → Graph → (ℕ → ℕ) → ℕ → ℕ
new_link n g p v = cond (in_basin n g v) (basin_link n p (reached n g v) v) (tree_link n g v)

-- "Known links stay. Each remaining term v, ascending, gets a link"
unfoldable pub link_each : ℕ → Graph → (ℕ → ℕ) → List ℕ → ℕ → ℕ
link_each n g p [] = p
link_each n g p (v ∷ vs) = link_each n g (λ t. cond (eqb t v and eqb (p v) 0) (new_link n g p v) (p t)) vs

unfoldable pub shown_link : ℕ → Facts → ℕ → ℕ → ℕ
shown_link n s i = link_each n (s.graph i) (next n (s.graph i)) (live_terms n s)

-- "The terms not replaced, ascending, are nodes 1 to m; with no terms, one node linked to itself": here the node of no term is 0.
unfoldable pub or_zero : List ℕ → List ℕ
or_zero [] = 0 ∷ []
or_zero (t ∷ ts) = t ∷ ts

unfoldable pub nodes : ℕ → Facts → List ℕ
nodes n s = or_zero (live_terms n s)

-- the place of t in a list, from 1
unfoldable pub place_of : ℕ → List ℕ → ℕ
place_of t [] = 0
place_of t (u ∷ us) = cond (eqb u t) 1 (suc (place_of t us))

-- the byte whose bit j - i is f j, for k numbers j from i on; and bit i of a byte
unfoldable pub byte_of : (ℕ → Bool) → ℕ → ℕ → ℕ
byte_of f i zero = 0
byte_of f i (suc k) = cond (f i) 1 0 + 2 * byte_of f (suc i) k

unfoldable pub bit_of : ℕ → ℕ → Bool
bit_of b zero = eqb (b % 2) 1
bit_of b (suc i) = bit_of (b / 2) i

-- "field j in bit j-1, set exactly by a plain literal", here for the node of term v
unfoldable pub field_byte : Query → Facts → ℕ → ℕ
field_byte q s v = byte_of (λ j. any (λ l. l.plain and eqb l.left j and eqb (s.rep l.right) v) q.fields) 1 8

-- "Report, each section after its count: m successors; n nodes, one per term; m data bytes ..; one byte of booleans", which is 0 since
-- no query has any (02, R-13). "The heap report holds 3m successors, link by link, after the count 3m" where there are three (02, R-11).
unfoldable pub successors_shown : ℕ → Facts → ℕ → List ℕ
successors_shown n s i = map (λ v. place_of (shown_link n s i v) (nodes n s)) (nodes n s)

unfoldable pub report : Query → Facts → List ℕ
report q s =
    let n : ℕ = term_count q in
    let ts : List ℕ = nodes n s in
    let m : ℕ = length ts in
    (q.links * m ∷ flat_map (successors_shown n s) (link_numbers q.links))
    ++ ((n ∷ map (λ t. place_of (s.rep t) ts) (terms n))
    ++ ((m ∷ map (field_byte q s) ts) ++ (1 ∷ 0 ∷ [])))

-- Reading a report. The first count is that of the successors: with one link, that of the nodes.
unfoldable pub size_in : List ℕ → ℕ
size_in bytes = get_or bytes 0 0

unfoldable pub node_in : List ℕ → ℕ → ℕ
node_in bytes t = get_or bytes (size_in bytes + 1 + t) 0

-- the heap that a report of so many links shows: a variable names the node that is listed for its term. A link that the report does not
-- show leads from each node to itself.
unfoldable pub heap_in : ℕ → List ℕ → Heap
heap_in links bytes =
    let p : ℕ = size_in bytes in
    let m : ℕ = p / links in
    let n : ℕ = get_or bytes (p + 1) 0 in
    record {
      size = m;
      link = λ i v. cond (ltb 0 i and leb i links) (get_or bytes ((i - 1) * m + v) 0) v;
      field = λ j v. bit_of (get_or bytes (p + n + 2 + v) 0) (j - 1);
      variable = λ t. cond (ltb 0 t and leb t n) (node_in bytes t) 1;
    }

-- A report of so many links: "A report is well formed if m is 1 to 16, n at most 16, the third count m, the fourth 1, every successor and node 1 to m, and each
-- byte past it zero"
unfoldable pub is_node : ℕ → ℕ → Bool
is_node m v = ltb 0 v and leb v m

unfoldable pub well_formed : ℕ → List ℕ → Bool
well_formed links bytes =
    let p : ℕ = size_in bytes in
    let m : ℕ = p / links in
    let n : ℕ = get_or bytes (p + 1) 0 in
    let byte : ℕ → ℕ = λ i. get_or bytes i 0 in
    eqb (links * m) p and is_node 16 m and leb n 16 and leb (p + n + m + 5) (length bytes)
    and eqb (byte (p + n + 2)) m and eqb (byte (p + n + m + 3)) 1
    and all (λ i. is_node m (byte i)) (from p 1) and all (λ i. is_node m (byte i)) (from n (p + 2))
    and all (λ i. eqb (byte i) 0) (from (length bytes - (p + n + m + 5)) (p + n + m + 5))
