-- What is read from the bytes of a report: the heap that it shows, and that it is well formed (01, "The heap shown").
use Prim.Native.Nat.{ℕ, zero, suc, ◌+◌, ◌-◌, ◌*◌, ◌/◌, ◌%◌, ◌≤◌, ◌<◌}
use native.Mathlib.Omega.{arith}
use native.Mathlib.Nat.{mul-div_cancel_left, div-lt_iff_lt-mul, mod-lt, div-add-mod'}
use mathlib.Core.Path.{◌≡◌, refl, ◌∙◌, subst}
use mathlib.Core.Bool.{Bool, true, false, cond}
use mathlib.Core.List.{List}
use lib.ListN.{length, get_or}
use lib.Dec.{eqb, ltb, leb}
use borrow.Author.Tests.{ltb-true, leb-true, lt-ltb, le-leb, eq-eqb}
use Rattle.logic.specs.Search.{◌and◌, from, all}
use Rattle.logic.specs.Heap.{IsHeap}
use Rattle.logic.specs.Shown.{bit_of, size_in, node_in, heap_in, is_node, well_formed}
use Rattle.theory.proofs.Basics.Compare.{cond-true, cond-false}
use Rattle.theory.proofs.Basics.Search.{and_left, and_right, and_intro, all_intro, from-mem}
use Rattle.theory.proofs.Completeness.ReportBytes.{Laid}

is_node_intro : (m v : ℕ) → 1 ≤ v → v ≤ m → is_node m v ≡ true
unfolding is_node
is_node_intro m v l h = and_intro (lt-ltb 0 v l) (le-leb v m h)

-- a test of all numbers from i on, as a test of what is added to i
all_from : (p : ℕ → Bool) (k i : ℕ) → ((j : ℕ) → j < k → p (i + j) ≡ true) → all p (from k i) ≡ true
all_from p k i h =
    all_intro p (from k i)
    (λ x mem. let r = from-mem k i x mem in let e : i + (x - i) ≡ x = omega arith in subst (λ (y : ℕ). p y ≡ true) e (h (x - i) (omega arith)))

-- What is read from bytes laid out so. Nodes are counted from 1, and the rows of a section from 0.
module _ {bytes : List ℕ} {links m n : ℕ} {link : ℕ → ℕ → ℕ} {node datum : ℕ → ℕ} {flags : ℕ} {rest : List ℕ} (at : Laid bytes links m n link node datum flags rest) (some_link : 1 ≤ links) where
  -- so many links of m successors each
  rows : links * m / links ≡ m
  rows = mul-div_cancel_left m some_link

  pub heap_size : (heap_in links bytes).size ≡ m
  unfolding heap_in size_in
  heap_size = rw at.size_at rows

  -- links and nodes of the heap are counted from 1
  pub heap_link : (k i : ℕ) → k < links → i < m → (heap_in links bytes).link (suc k) (suc i) ≡ link k i
  unfolding heap_in size_in
  heap_link k i l h =
      let e : suc k - 1 ≡ k = omega arith in
      let f : k * m + suc i ≡ suc (k * m + i) = omega arith in
      cond-true _ _ (and_intro (lt-ltb 0 (suc k) (omega arith)) (le-leb (suc k) links l))
      ∙ rw (at.size_at, rows, e, f) (at.link_at k i l h)

  -- a link that the report does not show leads from each node to itself
  pub heap_loop : (k v : ℕ) → ltb 0 k and leb k links ≡ false → (heap_in links bytes).link k v ≡ v
  unfolding heap_in
  heap_loop k v e = cond-false _ _ e

  pub node-listed : (i : ℕ) → i < n → node_in bytes (suc i) ≡ node i
  unfolding node_in size_in
  node-listed i h = rw at.size_at (let e : links * m + 1 + suc i ≡ links * m + 2 + i = omega arith in rw e (at.node_at i h))

  heap_variable : (t : ℕ) → (heap_in links bytes).variable t ≡ cond (ltb 0 t and leb t n) (node_in bytes t) 1
  unfolding heap_in size_in
  heap_variable t = rw (at.size_at, at.count_at)

  pub heap_field : (i j : ℕ) → i < m → (heap_in links bytes).field j (suc i) ≡ bit_of (datum i) (j - 1)
  unfolding heap_in size_in
  heap_field i j h = rw (at.size_at, at.count_at) (let e : links * m + n + 2 + suc i ≡ links * m + n + 3 + i = omega arith in rw (e, at.datum_at i h))

  pub heap_listed : (i : ℕ) → i < n → (heap_in links bytes).variable (suc i) ≡ node i
  heap_listed i h =
      let inside : ltb 0 (suc i) and leb (suc i) n ≡ true = and_intro (lt-ltb 0 (suc i) (omega arith)) (le-leb (suc i) n h) in
      rw (heap_variable, inside) (node-listed i h)

  -- where the report lists nodes alone, it shows a heap and is well formed
  module _ (nonempty : 1 ≤ m) (linked : (k i : ℕ) → k < links → i < m → (1 ≤ link k i) × (link k i ≤ m)) (listed : (i : ℕ) → i < n → (1 ≤ node i) × (node i ≤ m)) where
    variable_in : (t : ℕ) (b : Bool) → ltb 0 t and leb t n ≡ b → (1 ≤ cond b (node_in bytes t) 1) × (cond b (node_in bytes t) 1 ≤ m)
    variable_in t false e = (omega arith, omega arith)
    variable_in zero true e = absurd (omega (arith, ltb-true 0 zero (and_left (ltb 0 zero) (leb zero n) e)))
    variable_in (suc i) true e =
        let h : i < n = leb-true (suc i) n (and_right (ltb 0 (suc i)) (leb (suc i) n) e) in
        rw (node-listed i h) (listed i h)

    link_in : (k v : ℕ) (b : Bool) → ltb 0 k and leb k links ≡ b → 1 ≤ v → v ≤ m → (1 ≤ (heap_in links bytes).link k v) × ((heap_in links bytes).link k v ≤ m)
    link_in k v false e l h = rw (heap_loop k v e) (l, h)
    link_in k zero true e l h = absurd (omega arith)
    link_in zero (suc i) true e l h = absurd (omega (arith, ltb-true 0 zero (and_left (ltb 0 zero) (leb zero links) e)))
    link_in (suc k) (suc i) true e l h =
        let r : k < links = leb-true (suc k) links (and_right (ltb 0 (suc k)) (leb (suc k) links) e) in
        rw (heap_link k i r h) (linked k i r h)

    pub is_heap : IsHeap (heap_in links bytes)
    is_heap =
        record {
          nonempty = rw heap_size nonempty;
          link_node = rw heap_size (λ k v r. link_in k v (ltb 0 k and leb k links) refl r.0 r.1);
          variable_node = rw heap_size (λ t. rw heap_variable (variable_in t (ltb 0 t and leb t n) refl));
        }

    byte_is_node : (i v : ℕ) → get_or bytes i 0 ≡ v → (1 ≤ v) × (v ≤ m) → is_node m (get_or bytes i 0) ≡ true
    byte_is_node i v e r = rw e (is_node_intro m v r.0 r.1)

    -- a successor stands in some row
    links_pass : all (λ i. is_node m (get_or bytes i 0)) (from (links * m) 1) ≡ true
    links_pass =
        all_from (λ i. is_node m (get_or bytes i 0)) (links * m) 1
        (λ x h.
        let k : ℕ = x / m in
        let i : ℕ = x % m in
        let row : k < links = (div-lt_iff_lt-mul nonempty).1 h in
        let column : i < m = mod-lt x nonempty in
        let e : 1 + x ≡ suc (k * m + i) = omega (arith, div-add-mod' x m) in
        rw e (byte_is_node (suc (k * m + i)) (link k i) (at.link_at k i row column) (linked k i row column)))

    nodes_pass : all (λ i. is_node m (get_or bytes i 0)) (from n (links * m + 2)) ≡ true
    nodes_pass =
        all_from (λ i. is_node m (get_or bytes i 0)) n (links * m + 2) (λ i h. byte_is_node (links * m + 2 + i) (node i) (at.node_at i h) (listed i h))

    zeros_pass : (k : ℕ) → ((i : ℕ) → get_or rest i 0 ≡ 0) → all (λ i. eqb (get_or bytes i 0) 0) (from k (links * m + n + m + 5)) ≡ true
    zeros_pass k zeros =
        all_from (λ i. eqb (get_or bytes i 0) 0) k (links * m + n + m + 5) (λ i h. eq-eqb (get_or bytes (links * m + n + m + 5 + i) 0) 0 (at.past_at i ∙ zeros i))

    pub is_formed : m ≤ 16 → n ≤ 16 → ((i : ℕ) → get_or rest i 0 ≡ 0) → well_formed links bytes ≡ true
    unfolding well_formed size_in
    is_formed hm hn zeros =
        let rows_pass = eq-eqb (links * m) (links * m) refl in
        let size_passes = is_node_intro 16 m nonempty hm in
        let count_passes = le-leb n 16 hn in
        let long_enough = le-leb (links * m + n + m + 5) (links * m + n + m + 5 + length rest) (omega arith) in
        let third_passes = eq-eqb m m refl in
        let counts = and_intro (and_intro (and_intro (and_intro (and_intro rows_pass size_passes) count_passes) long_enough) third_passes) refl in
        rw (at.size_at, rows, at.count_at, at.third_at, at.fourth_at, at.total)
        (and_intro (and_intro (and_intro counts links_pass) nodes_pass) (zeros_pass _ zeros))
