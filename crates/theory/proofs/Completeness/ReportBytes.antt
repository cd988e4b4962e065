-- What stands where in the bytes of a report, whatever follows them (01, "The heap shown").
use Prim.Native.Nat.{ℕ, zero, suc, ◌+◌, ◌*◌, ◌≤◌, ◌<◌}
use native.Mathlib.Omega.{arith}
use native.Mathlib.Nat.{zero-mul, suc-mul, mul-le-mul_right}
use mathlib.Core.Path.{◌≡◌, refl, sym, ap, ◌∙◌}
use mathlib.Core.List.{List, [], ◌∷◌, ◌++◌, map, append_assoc}
use lib.ListN.{length, get_or, length-append, length-map, get_or-append}
use lib.Seq.{get_or-append-add}
use Rattle.logic.specs.Search.{from, flat_map}
use Rattle.logic.specs.Query.{Query, term_count}
use Rattle.logic.specs.Facts.{Facts, link_numbers, terms}
use Rattle.logic.specs.Shown.{nodes, place_of, shown_link, field_byte, successors_shown, report}
use Rattle.theory.proofs.Completeness.Placed.{length_from, get_d_from}

-- "each section after its count: m successors; n nodes ..; m data bytes ..; one byte of booleans"; then the bytes past it. The successors
-- stand link by link, those of each link behind those of the link before: `link k i` is the successor of node i by link k, both counted from 0.
pub record Laid (bytes : List ℕ) (links m n : ℕ) (link : ℕ → ℕ → ℕ) (node datum : ℕ → ℕ) (flags : ℕ) (rest : List ℕ) : Type 0 where
  pub total : length bytes ≡ links * m + n + m + 5 + length rest
  pub size_at : get_or bytes 0 0 ≡ links * m
  pub link_at : (k i : ℕ) → k < links → i < m → get_or bytes (suc (k * m + i)) 0 ≡ link k i
  pub count_at : get_or bytes (links * m + 1) 0 ≡ n
  pub node_at : (i : ℕ) → i < n → get_or bytes (links * m + 2 + i) 0 ≡ node i
  pub third_at : get_or bytes (links * m + n + 2) 0 ≡ m
  pub datum_at : (i : ℕ) → i < m → get_or bytes (links * m + n + 3 + i) 0 ≡ datum i
  pub fourth_at : get_or bytes (links * m + n + m + 3) 0 ≡ 1
  pub flags_at : get_or bytes (links * m + n + m + 4) 0 ≡ flags
  pub past_at : (i : ℕ) → get_or bytes (links * m + n + m + 5 + i) 0 ≡ get_or rest i 0

-- the elements of a list: f 0, f 1 and on, below f k
record Lists (xs : List ℕ) (k : ℕ) (f : ℕ → ℕ) : Type 0 where
  size : length xs ≡ k
  each : (i : ℕ) → i < k → get_or xs i 0 ≡ f i

lists_map : (f : ℕ → ℕ) (xs : List ℕ) → Lists (map f xs) (length xs) (λ i. f (get_or xs i 0))
lists_map f xs = record { size = length-map xs f; each = go xs }
  where
    go : (ys : List ℕ) (i : ℕ) → i < length ys → get_or (map f ys) i 0 ≡ f (get_or ys i 0)
    go [] i h = absurd (omega arith)
    go (y ∷ ys) zero h = refl
    go (y ∷ ys) (suc i) h = go ys i (omega arith)

lists_terms : (f : ℕ → ℕ) (n : ℕ) → Lists (map f (terms n)) n (λ i. f (suc i))
unfolding terms
lists_terms f n =
    record {
      size = length-map (from n 1) f ∙ length_from n 1;
      each = λ i h. let e : get_or (from n 1) i 0 ≡ suc i = omega (arith, get_d_from n 1 i h) in
          (lists_map f (from n 1)).each i (omega (arith, length_from n 1)) ∙ ap f e;
    }

-- a byte behind a section, its place told from the section's end
pub get_d_past : (xs ys : List ℕ) (i k : ℕ) → k ≡ length xs + i → get_or (xs ++ ys) k 0 ≡ get_or ys i 0
get_d_past xs ys i k e = ap (λ (j : ℕ). get_or (xs ++ ys) j 0) e ∙ get_or-append-add xs ys i 0

-- rows of m elements, one behind the other: element i of row k, both counted from 0
rows-length : (f : ℕ → List ℕ) (m : ℕ) → ((i : ℕ) → length (f i) ≡ m) → (links i : ℕ) → length (flat_map f (from links i)) ≡ links * m
unfolding flat_map from
rows-length f m sized zero i = sym (zero-mul m)
rows-length f m sized (suc links) i =
    length-append (f i) (flat_map f (from links (suc i))) ∙ omega (arith, sized i, rows-length f m sized links (suc i), suc-mul links m)

rows-each : (f : ℕ → List ℕ) (m : ℕ) → ((i : ℕ) → length (f i) ≡ m) → (links i k j : ℕ) → k < links → j < m → get_or (flat_map f (from links i)) (k * m + j) 0 ≡ get_or (f (i + k)) j 0
unfolding flat_map from
rows-each f m sized zero i k j l h = absurd (omega arith)
rows-each f m sized (suc links) i zero j l h =
    let e : zero * m + j ≡ j = omega (arith, zero-mul m) in
    let e' : i + zero ≡ i = omega arith in
    rw (e, e') (get_or-append (f i) (flat_map f (from links (suc i))) 0 j (omega (arith, sized i)))
rows-each f m sized (suc links) i (suc k) j l h =
    let e' : suc i + k ≡ i + suc k = omega arith in
    get_d_past (f i) (flat_map f (from links (suc i))) (k * m + j) (suc k * m + j) (omega (arith, sized i, suc-mul k m))
    ∙ rows-each f m sized links (suc i) k j (omega arith) h ∙ ap (λ (x : ℕ). get_or (f x) j 0) e'

module _ (links m n flags : ℕ) (link : ℕ → ℕ → ℕ) (node datum : ℕ → ℕ) (ls ns ds rest : List ℕ) (sized : length ls ≡ links * m)
    (linked : (k i : ℕ) → k < links → i < m → get_or ls (k * m + i) 0 ≡ link k i) (listed : Lists ns n node) (fields : Lists ds m datum) where
  -- what follows each section
  abbrev behind_data : List ℕ
  behind_data = 1 ∷ flags ∷ rest

  abbrev behind_nodes : List ℕ
  behind_nodes = (m ∷ ds) ++ behind_data

  abbrev behind_links : List ℕ
  behind_links = (n ∷ ns) ++ behind_nodes

  abbrev whole : List ℕ
  whole = (links * m ∷ ls) ++ behind_links

  past_links : (i k : ℕ) → k ≡ links * m + 1 + i → get_or whole k 0 ≡ get_or behind_links i 0
  past_links i k e = get_d_past (links * m ∷ ls) behind_links i k (omega (arith, sized))

  past_nodes : (i k : ℕ) → k ≡ links * m + n + 2 + i → get_or whole k 0 ≡ get_or behind_nodes i 0
  past_nodes i k e = past_links (n + 1 + i) k (omega arith) ∙ get_d_past (n ∷ ns) behind_nodes i (n + 1 + i) (omega arith)

  past_data : (i k : ℕ) → k ≡ links * m + n + m + 3 + i → get_or whole k 0 ≡ get_or behind_data i 0
  past_data i k e = past_nodes (m + 1 + i) k (omega arith) ∙ get_d_past (m ∷ ds) behind_data i (m + 1 + i) (omega arith)

  -- a successor's place is within the section
  within : (k i : ℕ) → k < links → i < m → k * m + i < length ls
  within k i l h = let rows : suc k * m ≤ links * m = mul-le-mul_right m l in omega (arith, rows, suc-mul k m, sized, h)

  laid : Laid whole links m n link node datum flags rest
  laid =
      record {
        total = simp length-append (omega (arith, sized));
        size_at = refl;
        link_at = λ k i l h. get_or-append ls behind_links 0 (k * m + i) (within k i l h) ∙ linked k i l h;
        count_at = past_links 0 (links * m + 1) (omega arith);
        node_at = λ i h. past_links (suc i) (links * m + 2 + i) (omega arith) ∙ get_or-append ns behind_nodes 0 i (omega arith) ∙ listed.each i h;
        third_at = past_nodes 0 (links * m + n + 2) (omega arith);
        datum_at = λ i h. past_nodes (suc i) (links * m + n + 3 + i) (omega arith) ∙ get_or-append ds behind_data 0 i (omega arith) ∙ fields.each i h;
        fourth_at = past_data 0 (links * m + n + m + 3) (omega arith);
        flags_at = past_data 1 (links * m + n + m + 4) (omega arith);
        past_at = λ i. past_data (suc (suc i)) (links * m + n + m + 5 + i) (omega arith);
      }

pub regroup : (ls ns ds es rest : List ℕ) → (ls ++ (ns ++ (ds ++ es))) ++ rest ≡ ls ++ (ns ++ (ds ++ (es ++ rest)))
regroup ls ns ds es rest = simp append_assoc

-- the terms that are the nodes, in order; a link between them; and the number of a term's node
abbrev pub nodes_of : Query → Facts → List ℕ
nodes_of q s = nodes (term_count q) s

abbrev pub link_shown : Query → Facts → ℕ → ℕ → ℕ
link_shown q s = shown_link (term_count q) s

abbrev pub place : Query → Facts → ℕ → ℕ
place q s v = place_of v (nodes_of q s)

-- the report, whatever follows it
pub report_laid : (q : Query) (s : Facts) (rest : List ℕ) →
    Laid (report q s ++ rest) q.links (length (nodes_of q s)) (term_count q) (λ k i. place q s (link_shown q s (suc k) (get_or (nodes_of q s) i 0)))
    (λ i. place q s (s.rep (suc i))) (λ i. field_byte q s (get_or (nodes_of q s) i 0)) 0 rest
unfolding report successors_shown link_numbers
report_laid q s rest =
    let ts : List ℕ = nodes_of q s in
    let row : ℕ → List ℕ = successors_shown (term_count q) s in
    let sized : (i : ℕ) → length (row i) ≡ length ts = λ i. length-map ts (λ v. place q s (link_shown q s i v)) in
    let listed = lists_terms (λ t. place q s (s.rep t)) (term_count q) in
    rw (regroup
    (q.links * length ts ∷ flat_map row (from q.links 1)) (term_count q ∷ map (λ t. place q s (s.rep t)) (terms (term_count q)))
    (length ts ∷ map (field_byte q s) ts) (1 ∷ 0 ∷ []) rest)
    (laid q.links (length ts) (term_count q) 0 _ _ _ (flat_map row (from q.links 1)) _ _ rest (rows-length row (length ts) sized q.links 1)
    (λ k i l h. let e : 1 + k ≡ suc k = omega arith in
    rows-each row (length ts) sized q.links 1 k i l h ∙ ap (λ (x : ℕ). get_or (row x) i 0) e
    ∙ (lists_map (λ v. place q s (link_shown q s (suc k) v)) ts).each i h) listed (lists_map (field_byte q s) ts))
