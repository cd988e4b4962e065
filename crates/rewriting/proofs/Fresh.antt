-- A fresh variable behind the last term: what a query says of the terms before it stays, and a heap meets it with the booleans as the
-- fresh variable's fields. Assumes nothing.
use Prim.Native.Nat.{ℕ, zero, suc}
use native.Mathlib.Omega.{arith}
use mathlib.Core.Path.{◌≡◌, refl, sym, ap, ◌∙◌, subst, subst₂}
use mathlib.Core.Logic.{⊎_elim}
use mathlib.Core.Bool.{Bool, true}
use mathlib.Core.List.Memᴰ
use mathlib.Core.List.{List, [], ◌∷◌, ◌++◌, map, Memᴰ}
use lib.ListN.{length, get_or}
use lib.Dec.{eqb}
use Rattle.logic.specs.Query.{Literal, Entries, Query, entry_of, link_of, names_nil, argument_of, term_count}
use Rattle.logic.specs.Heap.{Heap, value_within, value, Reaches, Signed, MeansField, Each, Meets}
use Rattle.theory.proofs.Basics.Search.{map-mem, map_intro}
use Rattle.theory.proofs.Basics.Compare.{le_cases}
use Rattle.theory.proofs.Query.Entries.{argument_range}
use Rattle.theory.proofs.Soundness.Value.{value-variable}
use Rattle.rewriting.specs.Rewritten.{as_field, with_fresh}

-- what lies outside of the entries counts as a variable, so one more variable changes no entry
last_zero : (xs : List ℕ) (i : ℕ) → get_or (xs ++ (0 ∷ [])) i 0 ≡ get_or xs i 0
last_zero [] zero = refl
last_zero [] (suc i) = refl
last_zero (x ∷ xs) zero = refl
last_zero (x ∷ xs) (suc i) = last_zero xs i

-- the entries with one more variable, which follows no link
abbrev longer : Entries → Entries
longer xs = record { terms = xs.terms ++ (0 ∷ []); links = xs.links }

module _ (xs : Entries) where
  entry_same : (t : ℕ) → entry_of (longer xs) t ≡ entry_of xs t
  unfolding entry_of
  entry_same zero = refl
  entry_same (suc i) = last_zero xs.terms i

  pub nil_same : (t : ℕ) → names_nil (longer xs) t ≡ names_nil xs t
  unfolding names_nil
  nil_same t = ap (λ (e : ℕ). eqb e 255) (entry_same t)

  pub argument_same : (t : ℕ) → argument_of (longer xs) t ≡ argument_of xs t
  unfolding argument_of
  argument_same t = rw (nil_same t, entry_same t)

  -- nor any value
  within_same : (h : Heap) (k t : ℕ) → value_within h (longer xs) k t ≡ value_within h xs k t
  unfolding value_within link_of
  within_same h zero t = refl
  within_same h (suc k) t = rw (argument_same t, within_same h k (argument_of xs t))

  pub value_same : (h : Heap) (t : ℕ) → value h (longer xs) t ≡ value h xs t
  unfolding value
  value_same h t = within_same h t t

  -- the term behind the last one is a variable
  pub value-fresh : (h : Heap) → value h (longer xs) (suc (length xs.terms)) ≡ h.variable (suc (length xs.terms))
  value-fresh h =
      value_same h (suc (length xs.terms))
      ∙ value-variable h xs (suc (length xs.terms))
      (⊎_elim (λ one. let r = argument_range xs (suc (length xs.terms)) one in absurd (omega (arith, r.1))) (λ l. omega arith) (le_cases 1 (argument_of xs (suc (length xs.terms)))))

-- what is said of the values of two terms, with and without the fresh variable
module _ (h : Heap) (xs : Entries) (P : ℕ → ℕ → Type 0) (b : Bool) (x y : ℕ) where
  without : Signed b (P (value h (longer xs) x) (value h (longer xs) y)) → Signed b (P (value h xs x) (value h xs y))
  without = subst₂ (λ s t. Signed b (P s t)) (value_same xs h x) (value_same xs h y)

  within : Signed b (P (value h xs x) (value h xs y)) → Signed b (P (value h (longer xs) x) (value h (longer xs) y))
  within = subst₂ (λ s t. Signed b (P s t)) (sym (value_same xs h x)) (sym (value_same xs h y))

-- "boolean j becomes its data field j"
abbrev pub AsField : Heap → ℕ → Literal → Type 0
AsField h t l = Signed l.plain (h.field l.left (h.variable t) ≡ true)

module _ (h : Heap) (q : Query) (booleans : List Literal) where
  abbrev fresh : ℕ
  fresh = suc (term_count q)

  as_field_lem : (l : Literal) → MeansField h (longer q.entries) (as_field fresh l) → AsField h fresh l
  unfolding as_field term_count
  as_field_lem l m = subst (λ (v : ℕ). Signed l.plain (h.field l.left v ≡ true)) (value-fresh q.entries h) m

  field_of : (l : Literal) → AsField h fresh l → MeansField h (longer q.entries) (as_field fresh l)
  unfolding as_field term_count
  field_of l m = subst (λ (v : ℕ). Signed l.plain (h.field l.left v ≡ true)) (sym (value-fresh q.entries h)) m

  pub fresh_base : Meets h (with_fresh q booleans) → Meets h q
  unfolding with_fresh
  fresh_base m =
      record {
        is_heap = m.is_heap;
        nil_node =
            record {
              one_node' = λ t u x y. without h q.entries (λ i j. i ≡ j) true t u (m.nil_node.one_node' t u (nil_same q.entries t ∙ x) (nil_same q.entries u ∙ y));
              own_link = λ k t x. without h q.entries (λ i j. h.link k i ≡ j) true t t (m.nil_node.own_link k t (nil_same q.entries t ∙ x));
            };
        equalities = λ l k. without h q.entries (λ i j. i ≡ j) l.plain l.left l.right (m.equalities l k);
        reachability = λ l k. without h q.entries (Reaches (h.link l.link)) l.plain l.left l.right (m.reachability l k);
        fields = λ l k. without h q.entries (λ i j. h.field l.left j ≡ true) l.plain l.right l.right (m.fields l (Memᴰ.append_left _ k));
      }

  pub fresh-fields : Meets h (with_fresh q booleans) → Each (AsField h fresh) booleans
  unfolding with_fresh
  fresh-fields m l k = as_field_lem l (m.fields (as_field fresh l) (Memᴰ.append_right q.fields (map_intro (as_field fresh) l k)))

  pub with_fresh_lem : Meets h q → Each (AsField h fresh) booleans → Meets h (with_fresh q booleans)
  unfolding with_fresh
  with_fresh_lem m each =
      record {
        is_heap = m.is_heap;
        nil_node =
            record {
              one_node' = λ t u x y. within h q.entries (λ i j. i ≡ j) true t u (m.nil_node.one_node' t u (sym (nil_same q.entries t) ∙ x) (sym (nil_same q.entries u) ∙ y));
              own_link = λ k t x. within h q.entries (λ i j. h.link k i ≡ j) true t t (m.nil_node.own_link k t (sym (nil_same q.entries t) ∙ x));
            };
        equalities = λ l k. within h q.entries (λ i j. i ≡ j) l.plain l.left l.right (m.equalities l k);
        reachability = λ l k. within h q.entries (Reaches (h.link l.link)) l.plain l.left l.right (m.reachability l k);
        fields =
            λ l k. ⊎_elim (λ own. within h q.entries (λ i j. h.field l.left j ≡ true) l.plain l.right l.right (m.fields l own)) (appended l)
            (Memᴰ.append_cases q.fields k);
      }
    where
      appended : (l : Literal) → Memᴰ l (map (as_field fresh) booleans) → MeansField h (longer q.entries) l
      appended l k = let (b, own, e) = map-mem (as_field fresh) l booleans k in subst (MeansField h (longer q.entries)) (sym e) (field_of b (each b own))
