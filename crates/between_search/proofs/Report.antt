-- The report of what is found: where its bytes stand, and the heap that they show.
use Prim.Native.Nat.{ℕ, zero, suc, ◌+◌, ◌-◌, ◌*◌, ◌≤◌, ◌<◌}
use native.Mathlib.Omega.{arith}
use native.Mathlib.Nat.{zero-mul}
use mathlib.Core.Path.{◌≡◌, refl, ap, ◌∙◌, subst}
use mathlib.Core.Bool.{true, ◌&&◌}
use mathlib.Core.List.{List, [], ◌∷◌, ◌++◌, map}
use lib.ListN.{length, get_or, replicate, length-append, length-map, get_or-append}
use lib.Dec.{eqb, ltb, leb}
use borrow.Author.Tests.{ltb-true, leb-true}
use Rattle.logic.specs.Search.{from, any}
use Rattle.logic.specs.Query.{term_count}
use Rattle.logic.specs.Facts.{terms}
use Rattle.logic.specs.Heap.{IsHeap}
use Rattle.logic.specs.Shown.{heap_in, node_in, well_formed}
use Rattle.logic.specs.Calls.{padded}
use Rattle.theory.proofs.Basics.Search.{not_of, and_left, and_right}
use Rattle.theory.proofs.Completeness.Placed.{length_from, get_d_from}
use Rattle.theory.proofs.Completeness.Byte.{byte_bit}
use Rattle.theory.proofs.Completeness.ReportBytes.{Laid, get_d_past, regroup}
use Rattle.theory.proofs.Completeness.ReportHeap.{heap_size, heap_link, heap_loop, heap_field, heap_listed, node-listed, is_heap, is_formed}
use Rattle.theory.proofs.Basics.Count.{get_d_zeros}
use Rattle.between.specs.Meaning.{BetweenQuery}
use Rattle.between_search.specs.Search.{Found, entry, data_byte, report_of}

-- the elements of a list that is made from 1 to k
listed_size : (f : ℕ → ℕ) (k : ℕ) → length (map f (terms k)) ≡ k
unfolding terms
listed_size f k = length-map (from k 1) f ∙ length_from k 1

listed_each : (f : ℕ → ℕ) (k i : ℕ) → i < k → get_or (map f (terms k)) i 0 ≡ f (suc i)
unfolding terms
listed_each f k i h = go (from k 1) i (omega (arith, length_from k 1)) ∙ ap f (let e = get_d_from k 1 i h in e ∙ plus)
  where
    plus : 1 + i ≡ suc i
    plus = omega arith

    go : (xs : List ℕ) (i : ℕ) → i < length xs → get_or (map f xs) i 0 ≡ f (get_or xs i 0)
    go [] i h = absurd (omega arith)
    go (x ∷ xs) zero h = refl
    go (x ∷ xs) (suc i) h = go xs i (omega arith)

module _ (m n flags : ℕ) (link node datum : ℕ → ℕ) (rest : List ℕ) where
  abbrev behind_data : List ℕ
  behind_data = 1 ∷ flags ∷ rest

  abbrev behind_nodes : List ℕ
  behind_nodes = (m ∷ map datum (terms m)) ++ behind_data

  abbrev behind_links : List ℕ
  behind_links = (n ∷ map node (terms n)) ++ behind_nodes

  abbrev bytes : List ℕ
  bytes = (m ∷ map link (terms m)) ++ behind_links

  past_links : (i k : ℕ) → k ≡ m + 1 + i → get_or bytes k 0 ≡ get_or behind_links i 0
  past_links i k e = get_d_past (m ∷ map link (terms m)) behind_links i k (omega (arith, listed_size link m))

  past_nodes : (i k : ℕ) → k ≡ m + n + 2 + i → get_or bytes k 0 ≡ get_or behind_nodes i 0
  past_nodes i k e = past_links (n + 1 + i) k (omega arith) ∙ get_d_past (n ∷ map node (terms n)) behind_nodes i (n + 1 + i) (omega (arith, listed_size node n))

  past_data : (i k : ℕ) → k ≡ m + n + m + 3 + i → get_or bytes k 0 ≡ get_or behind_data i 0
  past_data i k e = past_nodes (m + 1 + i) k (omega arith) ∙ get_d_past (m ∷ map datum (terms m)) behind_data i (m + 1 + i) (omega (arith, listed_size datum m))

  -- the successors of the one link
  row : (k i : ℕ) → k < 1 → i < m → get_or bytes (suc (k * m + i)) 0 ≡ link (suc i)
  row zero i l h =
      let e : zero * m + i ≡ i = omega (arith, zero-mul m) in
      rw e (get_or-append (map link (terms m)) behind_links 0 i (omega (arith, listed_size link m)) ∙ listed_each link m i h)
  row (suc k) i l h = absurd (omega arith)

  pub laid : Laid bytes 1 m n (λ k i. link (suc i)) (λ i. node (suc i)) (λ i. datum (suc i)) flags rest
  laid =
      record {
        total = simp length-append (omega (arith, listed_size link m, listed_size node n, listed_size datum m));
        size_at = omega arith;
        link_at = row;
        count_at = past_links 0 (1 * m + 1) (omega arith);
        node_at = λ i h. past_links (suc i) (1 * m + 2 + i) (omega arith) ∙ get_or-append (map node (terms n)) behind_nodes 0 i (omega (arith, listed_size node n)) ∙ listed_each node n i h;
        third_at = past_nodes 0 (1 * m + n + 2) (omega arith);
        datum_at = λ i h. past_nodes (suc i) (1 * m + n + 3 + i) (omega arith) ∙ get_or-append (map datum (terms m)) behind_data 0 i (omega (arith, listed_size datum m)) ∙ listed_each datum m i h;
        fourth_at = past_data 0 (1 * m + n + m + 3) (omega arith);
        flags_at = past_data 1 (1 * m + n + m + 4) (omega arith);
        past_at = λ i. past_data (suc (suc i)) (1 * m + n + m + 5 + i) (omega arith);
      }

module _ (q : BetweenQuery) (c : Found) (room m : ℕ) (size : entry c.links 0 ≡ m) where
  abbrev n : ℕ
  n = term_count q.base

  abbrev link : ℕ → ℕ
  link = entry c.links

  abbrev node : ℕ → ℕ
  node = entry c.nodes

  abbrev datum : ℕ → ℕ
  datum = data_byte q.base.fields node

  abbrev rest : List ℕ
  rest = replicate (room - length (report_of q c)) 0

  abbrev shown : List ℕ
  shown = padded room (report_of q c)

  pub report_laid : Laid shown 1 m n (λ k i. link (suc i)) (λ i. node (suc i)) (λ i. datum (suc i)) 0 rest
  unfolding report_of padded
  report_laid =
      subst (λ (k : ℕ). Laid shown 1 k n (λ j i. link (suc i)) (λ i. node (suc i)) (λ i. datum (suc i)) 0 rest) size
      (rw (regroup (entry c.links 0 ∷ map link (terms (entry c.links 0))) (n ∷ map node (terms n))
      (entry c.links 0 ∷ map datum (terms (entry c.links 0))) (1 ∷ 0 ∷ []) (replicate (room - length (report_of q c)) 0))
      (laid (entry c.links 0) n 0 link node datum (replicate (room - length (report_of q c)) 0)))

  pub shown-size : (heap_in 1 shown).size ≡ m
  shown-size = heap_size report_laid (omega arith)

  pub shown-link : (v : ℕ) → (1 ≤ v) × (v ≤ m) → (heap_in 1 shown).link 1 v ≡ link v
  shown-link zero r = absurd (omega (arith, r.0))
  shown-link (suc i) r = heap_link report_laid (omega arith) 0 i (omega arith) r.1

  -- the report shows no other link
  pub shown_loop : (k v : ℕ) → (k ≡ 1 → ⊥) → (heap_in 1 shown).link k v ≡ v
  shown_loop k v d = heap_loop report_laid (omega arith) k v (not_of (λ e. d (omega (arith, ltb-true 0 k (and_left (ltb 0 k) (leb k 1) e), leb-true k 1 (and_right (ltb 0 k) (leb k 1) e)))))

  pub shown-variable : (t : ℕ) → 1 ≤ t → t ≤ n → (heap_in 1 shown).variable t ≡ node t
  shown-variable zero a b = absurd (omega arith)
  shown-variable (suc i) a b = heap_listed report_laid (omega arith) i b

  pub shown-node : (t : ℕ) → 1 ≤ t → t ≤ n → node_in shown t ≡ node t
  shown-node zero a b = absurd (omega arith)
  shown-node (suc i) a b = node-listed report_laid (omega arith) i b

  pub shown_is : 1 ≤ m → ((v : ℕ) → (1 ≤ v) × (v ≤ m) → (1 ≤ link v) × (link v ≤ m)) → ((t : ℕ) → 1 ≤ t → t ≤ n → (1 ≤ node t) × (node t ≤ m)) → IsHeap (heap_in 1 shown)
  shown_is one links nodes = is_heap report_laid (omega arith) one (λ k i l h. links (suc i) (omega arith, h)) (λ i h. nodes (suc i) (omega arith) h)

  pub shown_formed : 1 ≤ m → m ≤ 16 → n ≤ 16 → ((v : ℕ) → (1 ≤ v) × (v ≤ m) → (1 ≤ link v) × (link v ≤ m)) → ((t : ℕ) → 1 ≤ t → t ≤ n → (1 ≤ node t) × (node t ≤ m)) → well_formed 1 shown ≡ true
  shown_formed one few_nodes few_terms links nodes =
      is_formed report_laid (omega arith) one (λ k i l h. links (suc i) (omega arith, h)) (λ i h. nodes (suc i) (omega arith) h) few_nodes few_terms (get_d_zeros (room - length (report_of q c)))

  pub shown-field : (j v : ℕ) → (1 ≤ j) × (j ≤ 8) → (1 ≤ v) × (v ≤ m) → (heap_in 1 shown).field j v ≡ any (λ k. k.plain && eqb k.left j && eqb (node k.right) v) q.base.fields
  unfolding data_byte
  shown-field j zero r s = absurd (omega (arith, s.0))
  shown-field j (suc i) r s = heap_field report_laid (omega arith) i j s.1
      ∙ byte_bit (λ x. any (λ k. k.plain && eqb k.left x && eqb (node k.right) (suc i)) q.base.fields) j r.0 r.1
