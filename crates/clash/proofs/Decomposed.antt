-- The search for a clash goes by sections.
use Prim.Native.Nat.{ℕ}
use mathlib.Core.Path.{◌≡◌, refl, sym, ap, ap₂, ◌∙◌, fun_ext}
use mathlib.Core.Bool.{Bool}
use mathlib.Core.List.{List, [], ◌∷◌, ◌++◌, map}
use mathlib.Core.Option.{Option, none, some}
use lib.ListN.{length}
use Rattle.logic.specs.Search.{◌and◌, ◌or◌, from, keep, or_else, first_of, find, flat_map}
use Rattle.logic.specs.Query.{Literal, Query}
use Rattle.logic.specs.Facts.{Facts, Line, line, negated_at, plain_at, is_clash, clash_lines, clash}
use Rattle.theory.proofs.Basics.Search.{or-false}
use Rattle.literal_tests.specs.Tests.{one_term, reach_held, same_field}
use Rattle.clash.specs.Sections.{alone, paired}

-- the clash of a path
unfoldable pub path_clash : Query → Facts → Option Line
path_clash q s =
    or_else (alone 2 q.equalities (one_term s.rep)) (or_else (alone 3 q.reachability (reach_held s)) (paired 4 q.fields (same_field s.rep)))

-- Searches of lists that are made of lists

module _ {A : Type 0} where
  or_else_assoc : (o p q : Option A) → or_else (or_else o p) q ≡ or_else o (or_else p q)
  unfolding or_else
  or_else_assoc none p q = refl
  or_else_assoc (some a) p q = refl

module _ {A : Type 0} (p : A → Bool) where
  find-append : (xs ys : List A) → find p (xs ++ ys) ≡ or_else (find p xs) (find p ys)
  unfolding find first_of or_else
  find-append [] ys = refl
  find-append (x ∷ xs) ys = ap (or_else (keep (p x) x)) (find-append xs ys) ∙ sym (or_else_assoc (keep (p x) x) (find p xs) (find p ys))

  find-map : {B : Type 0} (f : B → A) (xs : List B) → find p (map f xs) ≡ first_of (λ x. keep (p (f x)) (f x)) xs
  unfolding find first_of
  find-map f [] = refl
  find-map f (x ∷ xs) = ap (or_else (keep (p (f x)) (f x))) (find-map f xs)

  find-flat_map : {B : Type 0} (f : B → List A) (xs : List B) → find p (flat_map f xs) ≡ first_of (λ x. find p (f x)) xs
  unfolding find first_of flat_map
  find-flat_map f [] = refl
  find-flat_map f (x ∷ xs) = find-append (f x) (flat_map f xs) ∙ ap (or_else (find p (f x))) (find-flat_map f xs)

module _ (q : Query) (s : Facts) where
  -- what makes a line of each section a clash
  line2 : (i : ℕ) → is_clash q s (line 9 2 i 0) ≡ negated_at q.equalities i (one_term s.rep)
  unfolding is_clash ◌and◌ ◌or◌
  line2 i = or-false _ ∙ or-false _

  line3 : (i : ℕ) → is_clash q s (line 9 3 i 0) ≡ negated_at q.reachability i (reach_held s)
  unfolding is_clash ◌and◌ ◌or◌
  line3 i = or-false _

  line4 : (i j : ℕ) → is_clash q s (line 9 4 i j) ≡ negated_at q.fields i (λ l. plain_at q.fields j (same_field s.rep l))
  unfolding is_clash ◌and◌ ◌or◌
  line4 i j = refl

  find-alone : (k : ℕ) (ls : List Literal) (p : Literal → Bool) → ((i : ℕ) → is_clash q s (line 9 k i 0) ≡ negated_at ls i p) →
      find (is_clash q s) (map (λ i. line 9 k i 0) (from (length ls) 1)) ≡ alone k ls p
  unfolding alone
  find-alone k ls p e =
      find-map (is_clash q s) (λ i. line 9 k i 0) (from (length ls) 1)
      ∙ ap (λ (t : ℕ → Bool). first_of (λ i. keep (t i) (line 9 k i 0)) (from (length ls) 1)) (fun_ext e)

  find-paired : (k : ℕ) (ls : List Literal) (p : Literal → Literal → Bool) →
      ((i j : ℕ) → is_clash q s (line 9 k i j) ≡ negated_at ls i (λ l. plain_at ls j (p l))) →
      find (is_clash q s) (flat_map (λ i. map (line 9 k i) (from (length ls) 1)) (from (length ls) 1)) ≡ paired k ls p
  unfolding paired
  find-paired k ls p e =
      find-flat_map (is_clash q s) (λ i. map (line 9 k i) (from (length ls) 1)) (from (length ls) 1)
      ∙ ap (λ (g : ℕ → Option Line). first_of g (from (length ls) 1))
      (fun_ext (λ i.
      find-map (is_clash q s) (line 9 k i) (from (length ls) 1)
      ∙ ap (λ (t : ℕ → Bool). first_of (λ j. keep (t j) (line 9 k i j)) (from (length ls) 1)) (fun_ext (e i))))

  -- "Lowest section, then lowest place, is reported"
  pub clash_split : clash q s ≡ path_clash q s
  unfolding clash clash_lines path_clash
  clash_split =
      find-append (is_clash q s) _ _
      ∙ ap₂ or_else (find-alone 2 q.equalities (one_term s.rep) line2)
      (find-append (is_clash q s) _ _
      ∙ ap₂ or_else (find-alone 3 q.reachability (reach_held s) line3)
      (find-paired 4 q.fields (same_field s.rep) line4))
