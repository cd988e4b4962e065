-- What the code's tests of a clash come to, whatever places its line names.
use Prim.Native.Nat.{ℕ, zero, suc, ◌+◌, ◌-◌, ◌≤◌, ◌<◌}
use native.Mathlib.Omega.{arith}
use mathlib.Core.Path.{◌≡◌, refl, sym, ap, ◌∙◌}
use mathlib.Core.Bool.{Bool, true, false, not}
use mathlib.Core.List.{List, [], ◌∷◌}
use mathlib.Core.Option.{none}
use lib.ListN.{length}
use lib.Dec.{eqb}
use borrow.Author.Tests.{ne_eqb}
use Rattle.logic.specs.Search.{◌and◌, ◌or◌, at, holds_of}
use Rattle.logic.specs.Query.{Query, Literal}
use Rattle.logic.specs.Facts.{Facts, line, negated_at, plain_at, is_clash}
use Rattle.theory.proofs.Basics.Search.{and-false}
use Rattle.facts.specs.Path.{path_of}
use Rattle.facts.specs.declared.Facts as code
use Rattle.query.specs.declared.Layout.{Layout}
use Rattle.query.proofs.Literals.{listed, listed-length}
use Rattle.link_query.specs.Said.{said}
use Rattle.literal_tests.specs.Tests.{one_term, reach_held, same_field}
use Rattle.clash.specs.Sections.{literals_in}
use Rattle.clash.proofs.Sections.{negated_at_lem, plain_at_lem}

-- Literals at places from 1: there is none at 0, nor past the end

at_past : (ls : List Literal) (i : ℕ) → length ls < i → at ls i ≡ none
unfolding at
at_past ls zero h = refl
at_past [] (suc i) h = refl
at_past (l ∷ ls) (suc zero) h = absurd (omega arith)
at_past (l ∷ ls) (suc (suc i)) h = at_past ls (suc i) (omega arith)

module _ (f : ℕ → Literal) (count : ℕ) (ls : List Literal) (are : ls ≡ listed f count 0) where
  many : length ls ≡ count
  many = ap length are ∙ listed-length f count

  pub negated_none : (i : ℕ) (p : Literal → Bool) → i ≡ 0 → negated_at ls i p ≡ false
  unfolding negated_at at holds_of
  negated_none i p e = rw e refl

  pub negated_past : (i : ℕ) (p : Literal → Bool) → count < i → negated_at ls i p ≡ false
  unfolding negated_at holds_of
  negated_past i p h = rw (at_past ls i (omega (arith, many)))

  plain-none : (j : ℕ) (p : Literal → Bool) → j ≡ 0 → plain_at ls j p ≡ false
  unfolding plain_at at holds_of
  plain-none j p e = rw e refl

  plain_past : (j : ℕ) (p : Literal → Bool) → count < j → plain_at ls j p ≡ false
  unfolding plain_at holds_of
  plain_past j p h = rw (at_past ls j (omega (arith, many)))

  pub negated_here : (i : ℕ) (p : Literal → Bool) → (i ≡ 0 → ⊥) → i ≤ count → (not (f (i - 1)).plain and p (f (i - 1))) ≡ negated_at ls i p
  negated_here i p d h =
      let e : i - 1 + 1 ≡ i = omega arith in
      sym (negated_at_lem f count ls are (i - 1) p (omega arith)) ∙ ap (λ (k : ℕ). negated_at ls k p) e

  plain_here : (j : ℕ) (p : Literal → Bool) → (j ≡ 0 → ⊥) → j ≤ count → plain_at ls j p ≡ ((f (j - 1)).plain and p (f (j - 1)))
  plain_here j p d h =
      let e : j - 1 + 1 ≡ j = omega arith in
      ap (λ (k : ℕ). plain_at ls k p) (sym e) ∙ plain_at_lem f count ls are (j - 1) p (omega arith)

  -- a literal and its partner
  module _ (p : Literal → Literal → Bool) (i j : ℕ) (d : i ≡ 0 → ⊥) (h : i ≤ count) where
    abbrev pub Pair : Bool
    Pair = negated_at ls i (λ l. plain_at ls j (p l))

    pub pair-plain : (f (i - 1)).plain ≡ true → false ≡ Pair
    unfolding ◌and◌
    pair-plain e = sym (ap (λ (b : Bool). not b and plain_at ls j (p (f (i - 1)))) e) ∙ negated_here i (λ l. plain_at ls j (p l)) d h

    pub pair-none : j ≡ 0 → false ≡ Pair
    pair-none e = sym (ap (λ (b : Bool). not (f (i - 1)).plain and b) (plain-none j (p (f (i - 1))) e) ∙ and-false _) ∙ negated_here i (λ l. plain_at ls j (p l)) d h

    pub pair_past : count < j → false ≡ Pair
    pair_past e = sym (ap (λ (b : Bool). not (f (i - 1)).plain and b) (plain_past j (p (f (i - 1))) e) ∙ and-false _) ∙ negated_here i (λ l. plain_at ls j (p l)) d h

    pub pair_here : (f (i - 1)).plain ≡ false → (j ≡ 0 → ⊥) → j ≤ count → ((f (j - 1)).plain and p (f (i - 1)) (f (j - 1))) ≡ Pair
    unfolding ◌and◌
    pair_here e d' h' =
        sym (plain_here j (p (f (i - 1))) d' h') ∙ sym (ap (λ (b : Bool). not b and plain_at ls j (p (f (i - 1)))) e) ∙ negated_here i (λ l. plain_at ls j (p l)) d h

-- The three sections of a clash line

or-false : (b : Bool) → (b or false) ≡ b
unfolding ◌or◌
or-false true = refl
or-false false = refl

module _ (q : Query) (s : Facts) (section i j : ℕ) where
  abbrev clashes : Bool
  clashes = is_clash q s (line 9 section i j)

  in_fields : section ≡ 4 → negated_at q.fields i (λ l. plain_at q.fields j (same_field s.rep l)) ≡ clashes
  unfolding is_clash ◌and◌ ◌or◌
  in_fields e = sym (rw e refl)

  in_equalities : section ≡ 2 → j ≡ 0 → negated_at q.equalities i (one_term s.rep) ≡ clashes
  unfolding is_clash ◌and◌ ◌or◌
  in_equalities e f = sym (rw (e, f) (or-false _ ∙ or-false _))

  in_reachability : section ≡ 3 → j ≡ 0 → negated_at q.reachability i (reach_held s) ≡ clashes
  unfolding is_clash ◌and◌ ◌or◌
  in_reachability e f = sym (rw (e, f) (or-false _))

  pub in_none : (section ≡ 4 → ⊥) → (section ≡ 2 → ⊥) → (section ≡ 3 → ⊥) → false ≡ clashes
  unfolding is_clash ◌and◌ ◌or◌
  in_none a c d = sym (rw (ne_eqb section 4 a, ne_eqb section 2 c, ne_eqb section 3 d) refl)

  pub in_partnered : (section ≡ 4 → ⊥) → (j ≡ 0 → ⊥) → false ≡ clashes
  unfolding is_clash ◌and◌ ◌or◌
  in_partnered a c = sym (rw (ne_eqb section 4 a, ne_eqb j 0 c) (table (eqb section 2) (eqb section 3) _ _))
    where
      table : (a b x y : Bool) → ((((a and false) and x) or ((b and false) and y)) or false) ≡ false
      table true true x y = refl
      table true false x y = refl
      table false true x y = refl
      table false false x y = refl

-- each where the query's bytes have it
module _ (l : Layout) (bytes : List ℕ) (s : code.Facts) (section i j : ℕ) where
  abbrev Clashes : Bool
  Clashes = is_clash (said l bytes) (path_of s) (line 9 section i j)

  pub clash_fields : (v : Bool) → v ≡ negated_at (literals_in bytes l.field_at l.field_count) i (λ x. plain_at (literals_in bytes l.field_at l.field_count) j (same_field (path_of s).rep x)) → section ≡ 4 → v ≡ Clashes
  unfolding said
  clash_fields v h e = h ∙ in_fields (said l bytes) (path_of s) section i j e

  pub clash_equalities : (v : Bool) → v ≡ negated_at (literals_in bytes l.equal_at l.equal_count) i (one_term (path_of s).rep) → section ≡ 2 → j ≡ 0 → v ≡ Clashes
  unfolding said
  clash_equalities v h e f = h ∙ in_equalities (said l bytes) (path_of s) section i j e f

  pub clash_reachability : (v : Bool) → v ≡ negated_at (said l bytes).reachability i (reach_held (path_of s)) → section ≡ 3 → j ≡ 0 → v ≡ Clashes
  clash_reachability v h e f = h ∙ in_reachability (said l bytes) (path_of s) section i j e f
