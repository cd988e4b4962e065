-- What a path without a clash says of the negated literals (01, "Joining and starting").
use Prim.Native.Nat.{ℕ, suc, ◌<◌}
use native.Mathlib.Omega.{arith}
use mathlib.Core.Path.{◌≡◌}
use mathlib.Core.Bool.{Bool, true, false}
use mathlib.Core.List.Memᴰ
use mathlib.Core.List.{List, map, Memᴰ}
use mathlib.Core.Option.{none}
use lib.ListN.{length}
use lib.Dec.{eqb}
use borrow.Author.Tests.{eq-eqb}
use Rattle.logic.specs.Search.{◌and◌, ◌or◌, from, holds_of, flat_map}
use Rattle.logic.specs.Query.{Literal, Query}
use Rattle.logic.specs.Facts.{Facts, Line, line, negated_at, plain_at, is_clash, clash_lines, clash}
use Rattle.theory.proofs.Basics.Search.{and_intro, not_intro, true-false, find_none, from_intro, map_intro, flat_map_intro}
use Rattle.theory.proofs.Completeness.Placed.{at_mem}

-- the places of a section's literals, and its clash lines without and with a partner
abbrev places : List Literal → List ℕ
places ls = from (length ls) 1

abbrev alone : ℕ → List Literal → List Line
alone k ls = map (λ i. line 9 k i 0) (places ls)

abbrev paired : ℕ → List Literal → List Line
paired k ls = flat_map (λ i. map (line 9 k i) (places ls)) (places ls)

module _ (k : ℕ) (ls : List Literal) where
  place_mem : (i : ℕ) → i < length ls → Memᴰ (suc i) (places ls)
  place_mem i h = from_intro (length ls) 1 (suc i) (omega arith) (omega arith)

  alone-mem : (i : ℕ) → i < length ls → Memᴰ (line 9 k (suc i) 0) (alone k ls)
  alone-mem i h = map_intro (λ i. line 9 k i 0) (suc i) (place_mem i h)

  paired-mem : (i j : ℕ) → i < length ls → j < length ls → Memᴰ (line 9 k (suc i) (suc j)) (paired k ls)
  paired-mem i j h h' =
      flat_map_intro (λ i. map (line 9 k i) (places ls)) (suc i) (line 9 k (suc i) (suc j)) (place_mem i h) (map_intro (line 9 k (suc i)) (suc j) (place_mem j h'))

-- a literal that passes a test is found by it at some place
module _ (ls : List Literal) (p : Literal → Bool) (l : Literal) (mem : Memᴰ l ls) (passes : p l ≡ true) where
  negated_found : l.plain ≡ false → (i : ℕ) × (i < length ls) × (negated_at ls (suc i) p ≡ true)
  unfolding negated_at holds_of
  negated_found e = let r = at_mem l mem in (r.0, r.1, rw r.2 (and_intro (not_intro e) passes))

  plain_found : l.plain ≡ true → (i : ℕ) × (i < length ls) × (plain_at ls (suc i) p ≡ true)
  unfolding plain_at holds_of
  plain_found e = let r = at_mem l mem in (r.0, r.1, rw r.2 (and_intro e passes))

module _ (q : Query) (s : Facts) (clean : clash q s ≡ none) where
  no_clash : (x : Line) → Memᴰ x (clash_lines q) → is_clash q s x ≡ true → ⊥
  unfolding clash
  no_clash x m e = true-false e (find_none (is_clash q s) x clean m)

  -- the terms of a negated equality are apart
  pub equal_free : (l : Literal) → Memᴰ l q.equalities → l.plain ≡ false → s.rep l.left ≡ s.rep l.right → ⊥
  unfolding is_clash clash_lines ◌and◌ ◌or◌
  equal_free l m e same =
      let r = negated_found q.equalities (λ l. eqb (s.rep l.left) (s.rep l.right)) l m (eq-eqb _ _ same) e in
      no_clash (line 9 2 (suc r.0) 0) (Memᴰ.append_left _ (alone-mem 2 q.equalities r.0 r.1)) (rw r.2)

  -- a negated reachability fact is not held
  pub reach_free : (l : Literal) → Memᴰ l q.reachability → l.plain ≡ false → (s.graph l.link).reach (s.rep l.left) (s.rep l.right) ≡ true → ⊥
  unfolding is_clash clash_lines ◌and◌ ◌or◌
  reach_free l m e held =
      let r = negated_found q.reachability (λ l. (s.graph l.link).reach (s.rep l.left) (s.rep l.right)) l m held e in
      no_clash (line 9 3 (suc r.0) 0)
      (Memᴰ.append_right (alone 2 q.equalities) (Memᴰ.append_left (paired 4 q.fields) (alone-mem 3 q.reachability r.0 r.1)))
      (rw r.2)

  -- a negated data literal has no plain partner
  pub field_free : (l p : Literal) → Memᴰ l q.fields → Memᴰ p q.fields → l.plain ≡ false → p.plain ≡ true → l.left ≡ p.left → s.rep l.right ≡ s.rep p.right → ⊥
  unfolding is_clash clash_lines ◌and◌ ◌or◌
  field_free l p m k e f same_field same_term =
      let partner : Literal → Literal → Bool = λ l p. eqb l.left p.left and eqb (s.rep l.right) (s.rep p.right) in
      let t = plain_found q.fields (partner l) p k (and_intro (eq-eqb _ _ same_field) (eq-eqb _ _ same_term)) f in
      let r = negated_found q.fields (λ l. plain_at q.fields (suc t.0) (partner l)) l m t.2 e in
      no_clash (line 9 4 (suc r.0) (suc t.0))
      (Memᴰ.append_right (alone 2 q.equalities) (Memᴰ.append_right (alone 3 q.reachability) (paired-mem 4 q.fields r.0 t.0 r.1 t.1)))
      (rw r.2)
