-- An order list whose first three numbers are those of REFLEX, TRANS1 and TRANS2 has these rules in front.
use Prim.Native.Nat.{ℕ, ◌≤◌, ◌<◌}
use native.Mathlib.Omega.{arith}
use mathlib.Core.Path.{◌≡◌, refl, sym, ap, ◌∙◌}
use mathlib.Core.Logic.{◌⊎◌, ⊎_elim, inl, inr}
use mathlib.Core.Bool.{Bool, true, false, ◌&&◌, ◌||◌, false≢true}
use mathlib.Core.List.Memᴰ
use mathlib.Core.List.{List, [], ◌∷◌, ◌++◌, Memᴰ, append_assoc}
use mathlib.Core.Option.{Option, none, some, Option-elim}
use lib.ListN.{length, drop}
use lib.Dec.{eqb, ltb}
use borrow.Author.Tests.{eqb-true, ltb-true}
use Rattle.logic.specs.Search.{flat_map}
use Rattle.logic.specs.Rules.{Rule, REFLEX, TRANS1, TRANS2, FUNC, CYCLE, SCC, TOTAL, SHARE, rule_number, rules, rule_of}
use Rattle.logic.specs.Walk.{order_of}
use Rattle.theory.proofs.Basics.Search.{true-false, find-some, flat_map-mem, flat_map_intro}
use Rattle.theory.proofs.Walks.Order.{rule_of_number}
use Rattle.closing.specs.Closed.{closing, Begins, three_of, begins}

six : (o t u x y z : Bool) → o && t && u && x && y && z ≡ true → (o ≡ true) × (t ≡ true) × (u ≡ true) × (x ≡ true) × (y ≡ true) × (z ≡ true)
six true true true true true true e = (refl, refl, refl, refl, refl, refl)
six false t u x y z e = absurd (false≢true e)
six true false u x y z e = absurd (false≢true e)
six true true false x y z e = absurd (false≢true e)
six true true true false y z e = absurd (false≢true e)
six true true true true false z e = absurd (false≢true e)
six true true true true true false e = absurd (false≢true e)

either : (a b : Bool) → a || b ≡ true → (a ≡ true) ⊎ (b ≡ true)
either true b e = inl refl
either false b e = inr e

-- a number is one of three
abbrev Among : ℕ → ℕ → ℕ → ℕ → Type 0
Among k a b c = (a ≡ k) ⊎ ((b ≡ k) ⊎ (c ≡ k))

among : (k a b c : ℕ) → (eqb a k || eqb b k) || eqb c k ≡ true → Among k a b c
among k a b c e =
    ⊎_elim
    (λ f. ⊎_elim (λ g. inl (eqb-true a k g)) (λ g. inr (inl (eqb-true b k g))) (either (eqb a k) (eqb b k) f))
    (λ f. inr (inr (eqb-true c k f)))
    (either (eqb a k || eqb b k) (eqb c k) e)

among_mem : (k a b c : ℕ) → Among k a b c → Memᴰ k (a ∷ b ∷ c ∷ [])
among_mem k a b c m =
    ⊎_elim (λ e. Memᴰ.head (sym e)) (λ n. ⊎_elim (λ e. Memᴰ.tail (Memᴰ.head (sym e))) (λ e. Memᴰ.tail (Memᴰ.tail (Memᴰ.head (sym e)))) n) m

-- the rule of a number, as a list
abbrev rule_list : ℕ → List Rule
rule_list k = Option-elim (rule_of k) [] (λ r. r ∷ [])

-- a rule that stands for a number has that number
listed : (k : ℕ) (r : Rule) → Memᴰ r (rule_list k) → rule_number r ≡ k
unfolding Option-elim rule_of
listed k r m = go (rule_of k) refl m
  where
    go : (o : Option Rule) → rule_of k ≡ o → Memᴰ r (Option-elim o [] (λ r'. r' ∷ [])) → rule_number r ≡ k
    go none e i = absurd (Memᴰ.not-nil i)
    go (some r') e i =
        ⊎_elim
        (λ f. ap rule_number f ∙ eqb-true (rule_number r') k (find-some (λ r''. eqb (rule_number r'') k) rules r' e).1)
        (λ f. absurd (Memᴰ.not-nil f))
        (Memᴰ.cases_cons i)

closing-low : (r : Rule) → rule_number r < 4 → closing r ≡ true
unfolding rule_number closing
closing-low REFLEX l = refl
closing-low TRANS1 l = refl
closing-low TRANS2 l = refl
closing-low FUNC l = absurd (omega arith)
closing-low CYCLE l = absurd (omega arith)
closing-low SCC l = absurd (omega arith)
closing-low TOTAL l = absurd (omega arith)
closing-low SHARE l = absurd (omega arith)

module _ (a b c : ℕ) (rest : List ℕ) (e : three_of a b c ≡ true) where
  abbrev ks : List ℕ
  ks = a ∷ b ∷ c ∷ []

  below : (a < 4) × (b < 4) × (c < 4)
  below = let (one, two, three, la, lb, lc) = six ((eqb a 1 || eqb b 1) || eqb c 1) ((eqb a 2 || eqb b 2) || eqb c 2)
      ((eqb a 3 || eqb b 3) || eqb c 3) (ltb a 4) (ltb b 4) (ltb c 4) e in
      (ltb-true a 4 la, ltb-true b 4 lb, ltb-true c 4 lc)

  has : Among 1 a b c × Among 2 a b c × Among 3 a b c
  has = let (one, two, three, la, lb, lc) = six ((eqb a 1 || eqb b 1) || eqb c 1) ((eqb a 2 || eqb b 2) || eqb c 2) ((eqb a 3 || eqb b 3) || eqb c 3)
      (ltb a 4) (ltb b 4) (ltb c 4) e in
      (among 1 a b c one, among 2 a b c two, among 3 a b c three)

  low : (k : ℕ) → Memᴰ k ks → k < 4
  low k m =
      let (la, lb, lc) = below in
      ⊎_elim (λ f. rw f la) (λ n. ⊎_elim (λ f. rw f lb) (λ o. ⊎_elim (λ f. rw f lc) (λ z. absurd (Memᴰ.not-nil z)) (Memᴰ.cases_cons o)) (Memᴰ.cases_cons n)) (Memᴰ.cases_cons m)

  in_front : (r : Rule) → Memᴰ (rule_number r) ks → Memᴰ r (flat_map rule_list ks)
  unfolding Option-elim
  in_front r m = flat_map_intro rule_list (rule_number r) r m (rw (rule_of_number r) (Memᴰ.head refl))

  closing_in : (r : Rule) → closing r ≡ true → Memᴰ r (flat_map rule_list ks)
  unfolding closing rule_number
  closing_in REFLEX k = in_front REFLEX (among_mem 1 a b c has.0)
  closing_in TRANS1 k = in_front TRANS1 (among_mem 2 a b c has.1)
  closing_in TRANS2 k = in_front TRANS2 (among_mem 3 a b c has.2)
  closing_in FUNC k = absurd (true-false k refl)
  closing_in CYCLE k = absurd (true-false k refl)
  closing_in SCC k = absurd (true-false k refl)
  closing_in TOTAL k = absurd (true-false k refl)
  closing_in SHARE k = absurd (true-false k refl)

  three_begin : Begins (order_of (a ∷ b ∷ c ∷ rest)) (order_of rest)
  unfolding order_of flat_map
  three_begin =
      record {
        front = flat_map rule_list ks;
        parts = flat_map-parts ks;
        front_closing = λ r m. let (k, i, j) = flat_map-mem rule_list r ks m in closing-low r (rw (listed k r j) (low k i));
        closing_front = closing_in;
      }
    where
      flat_map-parts : (xs : List ℕ) → flat_map rule_list (xs ++ rest) ≡ flat_map rule_list xs ++ flat_map rule_list rest
      flat_map-parts [] = refl
      flat_map-parts (x ∷ xs) = ap (λ (ys : List Rule). rule_list x ++ ys) (flat_map-parts xs) ∙ sym (append_assoc (rule_list x) (flat_map rule_list xs) (flat_map rule_list rest))

pub begins_with : (order : List ℕ) → 3 ≤ length order → begins order ≡ true → Begins (order_of order) (order_of (drop 3 order))
begins_with [] l e = absurd (omega arith)
begins_with (a ∷ []) l e = absurd (omega arith)
begins_with (a ∷ b ∷ []) l e = absurd (omega arith)
begins_with (a ∷ b ∷ c ∷ rest) l e = three_begin a b c rest e
