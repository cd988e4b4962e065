-- "Old and rewritten query have the same verdict under the old meaning" (02, R-13). Assumes nothing.
use Prim.Native.Nat.{ℕ, zero, suc, ◌≤◌, ◌<◌}
use native.Mathlib.Omega.{arith}
use mathlib.Core.Path.{◌≡◌, refl, sym, ap, ◌∙◌, subst₂}
use mathlib.Core.Logic.{◌↔◌, ⊎_elim}
use mathlib.Core.Bool.{Bool, true, false, cond}
use mathlib.Core.List.Memᴰ
use mathlib.Core.List.{List, [], ◌∷◌}
use lib.ListN.{length}
use lib.Dec.{eqb, leb}
use borrow.Author.Tests.{le-leb, lt-leb}
use Rattle.logic.specs.Query.{Literal, Query, argument_of, link_of, term_count}
use Rattle.logic.specs.Heap.{Heap, Node, IsHeap, value, iterate, Reaches, Signed, Each, Meets, Satisfiable}
use Rattle.theory.proofs.Basics.Compare.{eqb_self, eqb-false, le_cases}
use Rattle.theory.proofs.Query.Tied.{Accepted, InTerms}
use Rattle.theory.proofs.Query.Entries.{nil_range}
use Rattle.theory.proofs.Soundness.Value.{Below, accepted_below, value-variable, value-link, value_node, signed_same}
use Rattle.rewriting.specs.OldQuery.{OldQuery}
use Rattle.rewriting.specs.OldHeap.{OldHeap, MeansBoolean, SatisfiableOld}
use Rattle.rewriting.specs.Rewritten.{rewritten, rewrite}
use Rattle.rewriting.proofs.Fresh.{AsField, fresh_base, fresh-fields, with_fresh_lem}

-- The heap with one node more, which links to itself, which variable t names, and whose fields are the booleans.
unfoldable pub grown : OldHeap → ℕ → Heap
grown h t =
    record {
      size = suc h.heap.size;
      link = λ i v. cond (leb v h.heap.size) (h.heap.link i v) v;
      field = λ j v. cond (leb v h.heap.size) (h.heap.field j v) (h.boolean j);
      variable = λ u. cond (eqb u t) (suc h.heap.size) (h.heap.variable u);
    }

module _ (h : OldHeap) (t : ℕ) where
  -- on the old nodes all stays
  link_old : (i v : ℕ) → Node h.heap v → (grown h t).link i v ≡ h.heap.link i v
  unfolding grown
  link_old i v n = rw (le-leb v h.heap.size n.1)

  field_old : (j v : ℕ) → Node h.heap v → (grown h t).field j v ≡ h.heap.field j v
  unfolding grown
  field_old j v n = rw (le-leb v h.heap.size n.1)

  variable_old : (u : ℕ) → (u ≡ t → ⊥) → (grown h t).variable u ≡ h.heap.variable u
  unfolding grown
  variable_old u e = rw (eqb-false u t e)

  -- the fields of the new node
  field_new : (j : ℕ) → (grown h t).field j ((grown h t).variable t) ≡ h.boolean j
  unfolding grown
  field_new j = rw (eqb_self t, lt-leb (suc h.heap.size) h.heap.size (omega arith))

  grown-is : IsHeap h.heap → IsHeap (grown h t)
  unfolding grown
  grown-is is =
      record {
        nonempty = omega arith;
        link_node = λ i v n. ⊎_elim (λ l. rw (le-leb v h.heap.size l) (let m = is.link_node i v (n.0, l) in
            (m.0, omega (arith, m.1)))) (λ l. rw (lt-leb v h.heap.size l) n) (le_cases v h.heap.size);
        variable_node = λ u. go u (eqb u t);
      }
    where
      go : (u : ℕ) (c : Bool) → (1 ≤ cond c (suc h.heap.size) (h.heap.variable u)) × (cond c (suc h.heap.size) (h.heap.variable u) ≤ suc h.heap.size)
      go u true = (omega arith, omega arith)
      go u false = let m = is.variable_node u in (m.0, omega (arith, m.1))

  module _ (is : IsHeap h.heap) where
    -- links from an old node stay among them
    iterate_old : (i k v : ℕ) → Node h.heap v → iterate ((grown h t).link i) k v ≡ iterate (h.heap.link i) k v
    unfolding iterate
    iterate_old i zero v n = refl
    iterate_old i (suc k) v n = ap (iterate ((grown h t).link i) k) (link_old i v n) ∙ iterate_old i k (h.heap.link i v) (is.link_node i v n)

    reach_old : (i v w : ℕ) → Node h.heap v → Reaches (h.heap.link i) v w ↔ Reaches ((grown h t).link i) v w
    unfolding Reaches
    reach_old i v w n = (λ r. (r.0, iterate_old i r.0 v n ∙ r.1), λ r. (r.0, sym (iterate_old i r.0 v n) ∙ r.1))

module _ (h : OldHeap) (q : Query) (ok : Accepted q) (m : Meets h.heap q) where
  abbrev fresh : ℕ
  fresh = suc (term_count q)

  abbrev more : Heap
  more = grown h fresh

  below : Below q.entries
  below = accepted_below q ok

  node : (u : ℕ) → Node h.heap (value h.heap q.entries u)
  node = value_node h.heap q.entries m.is_heap

  -- a term before the fresh one keeps its value
  value-within : (fuel u : ℕ) → u < fuel → u < fresh → value more q.entries u ≡ value h.heap q.entries u
  value-within zero u f l = absurd (omega arith)
  value-within (suc fuel) u f l =
      ⊎_elim
      (λ one.
      let b = below u one in
      value-link more q.entries below u one
      ∙ ap (more.link (link_of q.entries u)) (value-within fuel (argument_of q.entries u) (omega arith) (omega arith))
      ∙ link_old h fresh (link_of q.entries u) (value h.heap q.entries (argument_of q.entries u)) (node (argument_of q.entries u))
      ∙ sym (value-link h.heap q.entries below u one))
      (λ none.
      let z : argument_of q.entries u ≡ 0 = omega arith in
      value-variable more q.entries u z ∙ variable_old h fresh u (λ e. absurd (omega arith)) ∙ sym (value-variable h.heap q.entries u z))
      (le_cases 1 (argument_of q.entries u))

  value_old : (u : ℕ) → InTerms q u → value more q.entries u ≡ value h.heap q.entries u
  value_old u r = value-within (suc u) u (omega arith) (omega (arith, r.1))

  nil_term : (u : ℕ) → (1 ≤ u) × (u ≤ length q.entries.terms) → InTerms q u
  unfolding term_count
  nil_term u r = r

  -- so what a literal says of two terms holds there too, where it holds of their nodes in both heaps
  keeps : (P Q : ℕ → ℕ → Type 0) → ((v w : ℕ) → Node h.heap v → Node h.heap w → P v w ↔ Q v w) → (b : Bool) (x y : ℕ) → InTerms q x →
      InTerms q y → Signed b (P (value h.heap q.entries x) (value h.heap q.entries y)) → Signed b (Q (value more q.entries x) (value more q.entries y))
  keeps P Q same b x y i j s =
      subst₂ (λ v w. Signed b (Q v w)) (sym (value_old x i)) (sym (value_old y j)) (signed_same b (same _ _ (node x) (node y)) s)

  equal_same : (v w : ℕ) → Node h.heap v → Node h.heap w → (v ≡ w) ↔ (v ≡ w)
  equal_same v w n k = (λ e. e, λ e. e)

  link-same : (i v w : ℕ) → Node h.heap v → Node h.heap w → (h.heap.link i v ≡ w) ↔ (more.link i v ≡ w)
  link-same i v w n k = let e = link_old h fresh i v n in (λ p. e ∙ p, λ p. sym e ∙ p)

  field-same : (j : ℕ) (v w : ℕ) → Node h.heap v → Node h.heap w → (h.heap.field j w ≡ true) ↔ (more.field j w ≡ true)
  field-same j v w n k = let e = field_old h fresh j w k in (λ p. e ∙ p, λ p. sym e ∙ p)

  grown_meets : Meets more q
  grown_meets =
      record {
        is_heap = grown-is h fresh m.is_heap;
        nil_node =
            record {
              one_node' = λ t u x y. keeps (λ v w. v ≡ w) (λ v w. v ≡ w) equal_same true t u (nil_term t (nil_range q.entries t x))
                  (nil_term u (nil_range q.entries u y)) (m.nil_node.one_node' t u x y);
              own_link =
                  λ i t x. let r = nil_term t (nil_range q.entries t x) in keeps (λ v w. h.heap.link i v ≡ w) (λ v w. more.link i v ≡ w) (link-same i) true t t r r (m.nil_node.own_link i t x);
            };
        equalities = λ l k. let r = ok.equal_terms l k in keeps (λ v w. v ≡ w) (λ v w. v ≡ w) equal_same l.plain l.left l.right r.0 r.1 (m.equalities l k);
        reachability =
            λ l k. let r = ok.reach_terms l k in
            keeps (Reaches (h.heap.link l.link)) (Reaches (more.link l.link)) (λ v w n o. reach_old h fresh m.is_heap l.link v w n)
            l.plain l.left l.right r.0 r.1 (m.reachability l k);
        fields =
            λ l k. let r = ok.field_term l k in
            keeps (λ v w. h.heap.field l.left w ≡ true) (λ v w. more.field l.left w ≡ true) (field-same l.left) l.plain l.right
            l.right r r (m.fields l k);
      }

  grown-fields : (l : Literal) → MeansBoolean h l → AsField more fresh l
  grown-fields l p = let e = field_new h fresh l.left in signed_same l.plain (λ x. e ∙ x, λ x. sym e ∙ x) p

-- a heap whose booleans are the fields of a variable's node
unfoldable freed : Heap → ℕ → OldHeap
freed h t = record { heap = h; boolean = λ j. h.field j (h.variable t) }

module _ (q : Query) (ok : Accepted q) where
  rewritten_if : (booleans : List Literal) (h : OldHeap) → Meets h.heap q → Each (MeansBoolean h) booleans → Satisfiable (rewritten q booleans)
  unfolding rewritten
  rewritten_if [] h m each = (h.heap, m)
  rewritten_if (b ∷ booleans) h m each = (
    grown h (suc (term_count q)),
    with_fresh_lem (grown h (suc (term_count q))) q (b ∷ booleans) (grown_meets h q ok m) (λ l k. grown-fields h q ok m l (each l k)),
  )

  rewritten_only : (booleans : List Literal) (h : Heap) → Meets h (rewritten q booleans) → Meets h q × Each (MeansBoolean (freed h (suc (term_count q)))) booleans
  unfolding rewritten freed
  rewritten_only [] h m = (m, λ l k. absurd (Memᴰ.not-nil k))
  rewritten_only (b ∷ booleans) h m = (fresh_base h q (b ∷ booleans) m, fresh-fields h q (b ∷ booleans) m)

pub same_verdict : (o : OldQuery) → Accepted o.base → SatisfiableOld o ↔ Satisfiable (rewrite o)
unfolding rewrite freed
same_verdict o ok = (
  λ s. rewritten_if o.base ok o.booleans s.0 s.1.meets_base s.1.booleans,
  λ s.
      let r = rewritten_only o.base ok o.booleans s.0 s.1 in
      (freed s.0 (suc (term_count o.base)), record { meets_base = r.0; booleans = r.1 }),
)
