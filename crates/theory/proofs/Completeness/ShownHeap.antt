-- "Satisfiable" is right: the heap in the report of a saturated path without a clash meets every literal of the query (demand 2), and
-- the report is well formed (demand 1). Graph theory enters by `Completed` alone.
use Prim.Native.Nat.{ℕ, zero, suc, ◌+◌, ◌-◌, ◌*◌, ◌≤◌, ◌<◌}
use native.Mathlib.Omega.{arith}
use native.Mathlib.Nat.{mul-le-mul_left}
use mathlib.Core.Path.{◌≡◌, refl, sym, ap, ◌∙◌}
use mathlib.Core.Logic.{◌↔◌, ⊎_elim}
use mathlib.Core.Bool.{Bool, true, false}
use mathlib.Core.List.{List, [], ◌++◌, append-nil, Memᴰ}
use mathlib.Core.Option.{none}
use lib.ListN.{length, get_or, replicate}
use lib.Dec.{eqb, ltb, leb}
use borrow.Author.Tests.{eqb-true, eqb-false, eq-eqb}
use Rattle.logic.specs.Search.{◌and◌, any}
use Rattle.logic.specs.Query.{Literal, Query, names_nil, argument_of, link_of, term_count}
use Rattle.logic.specs.Heap.{Heap, Reaches, Signed, Each, MeansEqual, MeansReach, MeansField, value, value_within}
use Rattle.logic.specs.Facts.{Facts, live_terms, clash}
use Rattle.logic.specs.Shown.{shown_link, bit_of, field_byte, report, heap_in, node_in, well_formed}
use Rattle.logic.specs.Demands.{Shows}
use Rattle.theory.proofs.Basics.Search.{and_left, and_right, and_intro, bool_cases, any-true, any_intro}
use Rattle.theory.proofs.Query.Tied.{InTerms, InLinks, ToEight, Accepted, Tied}
use Rattle.theory.proofs.Query.Entries.{nil_range}
use Rattle.theory.proofs.Paths.Ranged.{link_range}
use Rattle.theory.proofs.Completeness.Completed.{Completed}
use Rattle.theory.proofs.Completeness.Byte.{byte_bit}
use Rattle.theory.proofs.Completeness.Placed.{place_of-mem, place_of_range, place_of_injective}
use Rattle.theory.proofs.Completeness.Renamed.{reaches_name}
use Rattle.theory.proofs.Completeness.NoClash.{equal_free, reach_free, field_free}
use Rattle.theory.proofs.Completeness.ShownNodes.{nodes-length, live-mem, live_node, shown_link_node}
use Rattle.theory.proofs.Completeness.ReportBytes.{nodes_of, link_shown, place, report_laid}
use Rattle.theory.proofs.Completeness.ReportHeap.{heap_link, heap_loop, heap_field, heap_listed, node-listed, is_heap, is_formed}
use Rattle.theory.proofs.Basics.Count.{get_d_mem, get_d_zeros}

-- "That is 2m+n+5 bytes", and m more for each further link
pub report_size : (q : Query) (s : Facts) → length (report q s) ≡ q.links * length (nodes_of q s) + term_count q + length (nodes_of q s) + 5
report_size q s = omega (arith, ap length (append-nil (report q s)), (report_laid q s []).total)

pub report-length : (q : Query) (s : Facts) → Accepted q → length (report q s) ≤ q.links * 16 + 37
report-length q s acc =
    let m = nodes-length (term_count q) s acc.term_count_lem in
    let rows = mul-le-mul_left q.links m.1 in
    omega (arith, report_size q s, m, rows, acc.term_count_lem)

-- a literal's meaning, from that of each sign
signed : (b : Bool) (P : Type 0) → (b ≡ true → P) → (b ≡ false → P → ⊥) → Signed b P
signed true P plain negated = plain refl
signed false P plain negated = negated refl

-- the same for a bit that is set exactly where a literal passes a test
signed-bit : {bit : Bool} (ls : List Literal) (test : Literal → Bool) (l : Literal) → bit ≡ any test ls → Memᴰ l ls →
    (l.plain ≡ true → test l ≡ true) → ((p : Literal) → Memᴰ p ls → test p ≡ true → l.plain ≡ false → ⊥) → Signed l.plain (bit ≡ true)
signed-bit ls test l set m passes free =
    signed l.plain _ (λ e. set ∙ any_intro test l m (passes e)) (λ e on. let r = any-true test ls (sym set ∙ on) in free r.0 r.1 r.2 e)

-- the literals that set bit j of the data of the node of term v
abbrev sets_field : Facts → ℕ → ℕ → Literal → Bool
sets_field s j v l = l.plain and eqb l.left j and eqb (s.rep l.right) v

sets_field-true : (s : Facts) (j v : ℕ) (l : Literal) → sets_field s j v l ≡ true → (l.plain ≡ true) × (l.left ≡ j) × (s.rep l.right ≡ v)
sets_field-true s j v l e =
    let named = and_left (l.plain and eqb l.left j) (eqb (s.rep l.right) v) e in (
      and_left l.plain (eqb l.left j) named,
      eqb-true l.left j (and_right l.plain (eqb l.left j) named),
      eqb-true (s.rep l.right) v (and_right (l.plain and eqb l.left j) (eqb (s.rep l.right) v) e),
    )

-- v is the term of a node; p is the number of one
abbrev IsNode : Query → Facts → ℕ → Type 0
IsNode q s v = Memᴰ v (nodes_of q s)

abbrev InPlaces : Query → Facts → ℕ → Type 0
InPlaces q s p = (1 ≤ p) × (p ≤ length (nodes_of q s))

-- the heap that the report shows, whatever follows it, and the value of a term there
abbrev heap_of : Query → Facts → List ℕ → Heap
heap_of q s rest = heap_in q.links (report q s ++ rest)

abbrev value_of : Query → Facts → List ℕ → ℕ → ℕ
value_of q s rest = value (heap_of q s rest) q.entries

module _ (q : Query) (s : Facts) (acc : Accepted q) (tied : Tied q s) (comp : (i : ℕ) → InLinks q i → Completed (term_count q) (live_terms (term_count q) s) (s.graph i)) where
  pub rep_node : (t : ℕ) → InTerms q t → IsNode q s (s.rep t)
  rep_node t h = live_node (term_count q) s (s.rep t) (tied.rep_live t h)

  -- a term byte that is not 0 is the number of an earlier term
  entry_in : (t : ℕ) → InTerms q t → eqb (argument_of q.entries t) 0 ≡ false → InTerms q (argument_of q.entries t)
  entry_in t h e = let below = acc.entry_below t h in (omega (arith, eqb-false (argument_of q.entries t) 0 e), omega arith)

  -- nil terms are terms of the query
  nil_in : (t : ℕ) → names_nil q.entries t ≡ true → InTerms q t
  unfolding term_count
  nil_in t h = nil_range q.entries t h

  link_node : (i : ℕ) → InLinks q i → (v : ℕ) → IsNode q s v → IsNode q s (link_shown q s i v)
  link_node i r = shown_link_node (term_count q) s i (λ t l h. tied.rep_live t (l, h)) (comp i r)

  nonempty : 1 ≤ length (nodes_of q s)
  nonempty = (nodes-length (term_count q) s acc.term_count_lem).0

  -- "every successor and node 1 to m"
  links_in : (k i : ℕ) → k < q.links → i < length (nodes_of q s) → InPlaces q s (place q s (link_shown q s (suc k) (get_or (nodes_of q s) i 0)))
  links_in k i l h = place_of_range _ (link_node (suc k) (omega arith, l) _ (get_d_mem (nodes_of q s) i 0 h))

  listed_in : (i : ℕ) → i < term_count q → InPlaces q s (place q s (s.rep (suc i)))
  listed_in i h = place_of_range _ (rep_node (suc i) (omega arith, h))

  -- What the heap says at the nodes of terms. A node's place is that of an equal element of the list, and there the report is read.
  module _ (rest : List ℕ) where
    pub link-place : (i : ℕ) → InLinks q i → (v : ℕ) → IsNode q s v → (heap_of q s rest).link i (place q s v) ≡ place q s (link_shown q s i v)
    link-place zero l v m = absurd (omega arith)
    link-place (suc k) l v m =
        let r = place_of-mem v m in
        ap ((heap_of q s rest).link (suc k)) r.placed ∙ heap_link (report_laid q s rest) acc.some_link k r.index l.1 r.within
        ∙ ap (λ (u : ℕ). place q s (link_shown q s (suc k) u)) r.element

    field-place : (j v : ℕ) → ToEight j → IsNode q s v → (heap_of q s rest).field j (place q s v) ≡ any (sets_field s j v) q.fields
    unfolding field_byte
    field-place j v h m =
        let r = place_of-mem v m in
        ap ((heap_of q s rest).field j) r.placed
        ∙ heap_field (report_laid q s rest) acc.some_link r.index j r.within
        ∙ ap (λ (u : ℕ). bit_of (field_byte q s u) (j - 1)) r.element
        ∙ byte_bit (λ j. any (sets_field s j v) q.fields) j h.0 h.1

    variable-place : (t : ℕ) → InTerms q t → (heap_of q s rest).variable t ≡ place q s (s.rep t)
    variable-place zero h = absurd (omega arith)
    variable-place (suc i) h = heap_listed (report_laid q s rest) acc.some_link i h.1

    listed-place : (t : ℕ) → InTerms q t → node_in (report q s ++ rest) t ≡ place q s (s.rep t)
    listed-place zero h = absurd (omega arith)
    listed-place (suc i) h = node-listed (report_laid q s rest) acc.some_link i h.1

    -- the link fact of f of a term is kept
    entry_place : (t : ℕ) → InTerms q t → InTerms q (argument_of q.entries t) → (heap_of q s rest).link (link_of q.entries t) (place q s (s.rep (argument_of q.entries t))) ≡ place q s (s.rep t)
    unfolding shown_link
    entry_place t h k =
        let j : ℕ = argument_of q.entries t in
        let l = acc.entry_linked t h k.0 in
        link-place (link_of q.entries t) l (s.rep j) (rep_node j k) ∙ ap (place q s) ((comp (link_of q.entries t) l).completed_known (s.rep j) (s.rep t) (tied.entry_link t h k.0))

    -- the value of a term is the node of what it was replaced by
    value-within : (k t : ℕ) → InTerms q t → t ≤ k → value_within (heap_of q s rest) q.entries k t ≡ place q s (s.rep t)
    unfolding value_within
    value-within zero t h l = absurd (omega arith)
    value-within (suc k) t h l =
        let j : ℕ = argument_of q.entries t in
        let below = acc.entry_below t h in
        ⊎_elim
        (λ e. rw e (variable-place t h))
        (λ e. rw e (ap ((heap_of q s rest).link (link_of q.entries t)) (value-within k j (entry_in t h e) (omega arith)) ∙ entry_place t h (entry_in t h e)))
        (bool_cases (eqb j 0))

    pub value-place : (t : ℕ) → InTerms q t → value_of q s rest t ≡ place q s (s.rep t)
    unfolding value
    value-place t h = value-within t t h (omega arith)

    -- nil's link facts are kept, and a link that is not shown leads to itself
    nil-place : (i t : ℕ) → names_nil q.entries t ≡ true → (heap_of q s rest).link i (value_of q s rest t) ≡ value_of q s rest t
    unfolding shown_link
    nil-place i t h = ⊎_elim shown-link (λ e. heap_loop (report_laid q s rest) acc.some_link i _ e) (bool_cases (ltb 0 i and leb i q.links))
      where
        shown-link : ltb 0 i and leb i q.links ≡ true → (heap_of q s rest).link i (value_of q s rest t) ≡ value_of q s rest t
        shown-link e =
            let l = link_range q.links i e in
            let k = nil_in t h in
            rw (value-place t k) (link-place i l (s.rep t) (rep_node t k) ∙ ap (place q s) ((comp i l).completed_known (s.rep t) (s.rep t) (tied.nil_link i t l h)))

    -- the values of two terms are equal exactly where the terms were joined
    equal_exactly : (a b : ℕ) → InTerms q a → InTerms q b → (s.rep a ≡ s.rep b) ↔ (value_of q s rest a ≡ value_of q s rest b)
    equal_exactly a b h k =
        rw (value-place a h, value-place b k) (λ e. ap (place q s) e, place_of_injective (s.rep a) (s.rep b) (rep_node a h) (rep_node b k))

    -- one reaches the other exactly where the path holds it
    pub reach_exactly : (i : ℕ) → InLinks q i → (a b : ℕ) → InTerms q a → InTerms q b →
        ((s.graph i).reach (s.rep a) (s.rep b) ≡ true) ↔ Reaches ((heap_of q s rest).link i) (value_of q s rest a) (value_of q s rest b)
    unfolding shown_link
    reach_exactly i l a b h k =
        let held = (comp i l).completed_reach (s.rep a) (s.rep b) (live-mem (term_count q) s (s.rep a) (tied.rep_live a h)) in
        let moved = reaches_name (link_shown q s i) ((heap_of q s rest).link i) (place q s) (IsNode q s) (link_node i l) (link-place i l)
        (λ v w. place_of_injective v w) (s.rep a) (s.rep b) (rep_node a h) (rep_node b k) in
        rw (value-place a h, value-place b k) (λ e. moved.0 (held.0 e), λ r. held.1 (moved.1 r))

    module _ (clean : clash q s ≡ none) where
      equal_meant : Each (MeansEqual (heap_of q s rest) q.entries) q.equalities
      equal_meant l m =
          let r = acc.equal_terms l m in
          let e = equal_exactly l.left l.right r.0 r.1 in
          signed l.plain _ (λ p. e.0 (tied.equal_held l m p)) (λ p same. equal_free q s clean l m p (e.1 same))

      reach_meant : Each (MeansReach (heap_of q s rest) q.entries) q.reachability
      reach_meant l m =
          let r = acc.reach_terms l m in
          let e = reach_exactly l.link (acc.reach_linked l m) l.left l.right r.0 r.1 in
          signed l.plain _ (λ p. e.0 (tied.reach_held l m p)) (λ p held. reach_free q s clean l m p (e.1 held))

      field_meant : Each (MeansField (heap_of q s rest) q.entries) q.fields
      field_meant l m =
          let j : ℕ = l.left in
          let v : ℕ = s.rep l.right in
          let h = acc.field_term l m in
          let read = ap ((heap_of q s rest).field j) (value-place l.right h) ∙ field-place j v (acc.field_number l m) (rep_node l.right h) in
          signed-bit q.fields (sets_field s j v) l read m
          (λ e. and_intro (and_intro e (eq-eqb j j refl)) (eq-eqb v v refl))
          (λ p k t e. let r = sets_field-true s j v p t in field_free q s clean l p m k e r.0 (sym r.1) (sym r.2))

  -- the report, and zeros past it
  pub formed : (k : ℕ) → well_formed q.links (report q s ++ replicate k 0) ≡ true
  formed k =
      let long = nodes-length (term_count q) s acc.term_count_lem in
      is_formed (report_laid q s (replicate k 0)) acc.some_link nonempty links_in listed_in long.1 acc.term_count_lem (get_d_zeros k)

  pub shown : clash q s ≡ none → (rest : List ℕ) → Shows (report q s ++ rest) q
  shown clean rest =
      record {
        meets =
            record {
              is_heap = is_heap (report_laid q s rest) acc.some_link nonempty links_in listed_in;
              nil_node =
                  record {
                    one_node' = λ t u h k. (equal_exactly rest t u (nil_in t h) (nil_in u k)).0 (tied.nil_same t u h k);
                    own_link = λ i t h. nil-place rest i t h;
                  };
              equalities = equal_meant rest clean;
              reachability = reach_meant rest clean;
              fields = field_meant rest clean;
            };
        listed = λ t l h. value-place rest t (l, h) ∙ sym (listed-place rest t (l, h));
      }
