-- The same heaps meet a query in the old layout and its rewriting with link 1. Assumes nothing.
use Prim.Native.Nat.{ℕ, zero, suc, ◌-◌, ◌≤◌, ◌<◌}
use native.Mathlib.Omega.{arith}
use mathlib.Core.Path.{◌≡◌, refl, sym, ap, ap₂, ◌∙◌, subst₂}
use mathlib.Core.Logic.{◌↔◌, ⊎_elim}
use mathlib.Core.Bool.{Bool, true, false, cond}
use mathlib.Core.List.{List, [], ◌∷◌, map}
use lib.ListN.{length, get_or}
use lib.Dec.{eqb}
use Rattle.logic.specs.Search.{◌or◌}
use Rattle.logic.specs.Query.{Literal, Entries, Query, entry_of, names_nil, argument_of, link_of}
use Rattle.logic.specs.Heap.{Heap, value_within, value, Signed, NilNode, Meets, Reaches}
use Rattle.theory.proofs.Basics.Search.{true-false}
use Rattle.theory.proofs.Basics.Compare.{eqb-false, eqb_intro, eq_cases}
use Rattle.theory.proofs.Query.Entries.{argument_range}
use Rattle.link_rewriting.specs.LinkedQuery.{link_before, with_link_one}

-- the entries with link 1
abbrev linked : Entries → Entries
linked e = record { terms = e.terms; links = map link_before e.terms }

linked_at : (bytes : List ℕ) (i : ℕ) → i < length bytes → get_or (map link_before bytes) i 1 ≡ link_before (get_or bytes i 0)
linked_at [] i h = absurd (omega arith)
linked_at (b ∷ bytes) zero h = refl
linked_at (b ∷ bytes) (suc i) h = linked_at bytes i (omega arith)

-- before a byte that names a term
before_term : (b : ℕ) → 1 ≤ cond (eqb b 255) 0 b → link_before b ≡ 1
unfolding link_before ◌or◌
before_term b h = go (eqb b 255) h
  where
    go : (c : Bool) → 1 ≤ cond c 0 b → ◌≡◌ {A = ℕ} (cond (eqb b 0 or c) 0 1) 1
    go true one = absurd (omega arith)
    go false one = rw (eqb-false b 0 (λ e. omega (arith, e, one)))

-- a number that is not 0
above : (a : ℕ) → eqb a 0 ≡ false → 1 ≤ a
above a z = ⊎_elim (λ e. absurd (true-false (eqb_intro e) z)) (λ n. omega (arith, n.0)) (eq_cases a 0)

module _ (e : Entries) (none : e.links ≡ []) where
  link-one : (t : ℕ) → link_of e t ≡ 1
  unfolding link_of
  link-one t = ap (λ (ls : List ℕ). get_or ls (t - 1) 1) none

  -- a term that is f of another follows the same link
  link-same : (t : ℕ) → 1 ≤ argument_of e t → link_of e t ≡ link_of (linked e) t
  unfolding link_of argument_of names_nil entry_of
  link-same zero h = absurd (omega arith)
  link-same (suc t) h =
      let r = argument_range e (suc t) h in
      let z : suc t - 1 ≡ t = omega arith in
      link-one (suc t) ∙ sym (ap (λ (i : ℕ). get_or (map link_before e.terms) i 1) z ∙ linked_at e.terms t (omega (arith, r.1)) ∙ before_term (get_or e.terms t 0) h)

  -- names and arguments are read off the term bytes
  names_same : (t : ℕ) → names_nil e t ≡ names_nil (linked e) t
  unfolding names_nil entry_of
  names_same zero = refl
  names_same (suc t) = refl

  argument_same : (t : ℕ) → argument_of e t ≡ argument_of (linked e) t
  unfolding argument_of names_nil entry_of
  argument_same zero = refl
  argument_same (suc t) = refl

  within_same : (h : Heap) (k t : ℕ) → value_within h e k t ≡ value_within h (linked e) k t
  unfolding value_within
  within_same h zero t = refl
  within_same h (suc k) t =
      go (within_same h k (argument_of e t)) (eqb (argument_of e t) 0) refl
      ∙ ap (λ (a : ℕ). cond (eqb a 0) (h.variable t) (h.link (link_of (linked e) t) (value_within h (linked e) k a))) (argument_same t)
    where
      go : value_within h e k (argument_of e t) ≡ value_within h (linked e) k (argument_of e t) → (c : Bool) → eqb (argument_of e t) 0 ≡ c →
          cond c (h.variable t) (h.link (link_of e t) (value_within h e k (argument_of e t))) ≡ cond c (h.variable t)
          (h.link (link_of (linked e) t) (value_within h (linked e) k (argument_of e t)))
      go same true z = refl
      go same false z = ap₂ (λ (i v : ℕ). h.link i v) (link-same t (above (argument_of e t) z)) same

  value_same : (h : Heap) (t : ℕ) → value h e t ≡ value h (linked e) t
  unfolding value
  value_same h t = within_same h t t

-- what is said of a term's node does not depend on how its entry is written
module _ (h : Heap) (e f : Entries) (names : (t : ℕ) → names_nil e t ≡ names_nil f t) (same : (t : ℕ) → value h e t ≡ value h f t) where
  nil-moved : NilNode h e → NilNode h f
  nil-moved n =
      record {
        one_node' = λ t u x y. sym (same t) ∙ n.one_node' t u (names t ∙ x) (names u ∙ y) ∙ same u;
        own_link = λ i t x. ap (h.link i) (sym (same t)) ∙ n.own_link i t (names t ∙ x) ∙ same t;
      }

  -- and so of a literal's two terms
  moved : (P : ℕ → ℕ → Type 0) (x y : ℕ) → P (value h e x) (value h e y) → P (value h f x) (value h f y)
  moved P x y p = subst₂ P (same x) (same y) p

  meets_moved : (links links' : ℕ) (equalities reachability fields : List Literal) →
      Meets h (record { links = links; entries = e; equalities = equalities; reachability = reachability; fields = fields }) →
      Meets h (record { links = links'; entries = f; equalities = equalities; reachability = reachability; fields = fields })
  meets_moved links links' equalities reachability fields m =
      record {
        is_heap = m.is_heap;
        nil_node = nil-moved m.nil_node;
        equalities = λ l k. moved (λ v w. Signed l.plain (v ≡ w)) l.left l.right (m.equalities l k);
        reachability = λ l k. moved (λ v w. Signed l.plain (Reaches (h.link l.link) v w)) l.left l.right (m.reachability l k);
        fields = λ l k. moved (λ v w. Signed l.plain (h.field l.left w ≡ true)) l.right l.right (m.fields l k);
      }

pub same_heaps : (q : Query) → q.entries.links ≡ [] → (h : Heap) → Meets h q ↔ Meets h (with_link_one q)
unfolding with_link_one
same_heaps q none h = (
  meets_moved h q.entries (linked q.entries) (names_same q.entries none) (value_same q.entries none h) q.links 3 q.equalities q.reachability q.fields,
  meets_moved h (linked q.entries) q.entries (λ t. sym (names_same q.entries none t)) (λ t. sym (value_same q.entries none h t)) 3 q.links q.equalities q.reachability q.fields,
)
