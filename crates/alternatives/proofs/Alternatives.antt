-- The alternatives one by one are the definition's.
use Prim.Native.Nat.{ℕ, zero, suc, ◌≤◌, ◌<◌}
use native.Mathlib.Omega.{arith}
use mathlib.Core.Path.{◌≡◌, refl, ap, ◌∙◌}
use mathlib.Core.Bool.{cond}
use mathlib.Core.List.{List, [], ◌∷◌, map}
use lib.ListN.{length, get_or, length-map, get_or-map}
use lib.Dec.{eqb}
use Rattle.logic.specs.Heap.{iterate}
use Rattle.logic.specs.Facts.{Graph}
use Rattle.logic.specs.Rules.{Rule, REFLEX, TRANS1, TRANS2, FUNC, CYCLE, SCC, TOTAL, SHARE, triple, move, Fact, equal, next, round, alternatives}
use Rattle.alternatives.specs.Alternatives.{count_of, alternative_at}

round-length : (n : ℕ) (g : Graph) (k c : ℕ) → length (round n g k c) ≡ k
unfolding round
round-length n g zero c = refl
round-length n g (suc k) c = ap suc (round-length n g k (next n g c))

round_at : (n : ℕ) (g : Graph) (k c i d : ℕ) → i < k → get_or (round n g k c) i d ≡ iterate (next n g) i c
unfolding round iterate
round_at n g zero c i d h = absurd (omega arith)
round_at n g (suc k) c zero d h = refl
round_at n g (suc k) c (suc i) d h = round_at n g k (next n g c) i d (omega arith)

-- within a list, what stands past its end does not matter
get_d_other {ℓ} : {A : Type ℓ} (xs : List A) (i : ℕ) (d e : A) → i < length xs → get_or xs i d ≡ get_or xs i e
get_d_other [] i d e h = absurd (omega arith)
get_d_other (x ∷ xs) zero d e h = refl
get_d_other (x ∷ xs) (suc i) d e h = get_d_other xs i d e (omega arith)

-- a cycle has no more terms than there are
pub count_few : (r : Rule) (z : ℕ) → z ≤ 16 → count_of r z ≤ 16
count_few REFLEX z h = omega arith
count_few TRANS1 z h = omega arith
count_few TRANS2 z h = omega arith
count_few FUNC z h = omega arith
count_few CYCLE z h = h
count_few SCC z h = omega arith
count_few TOTAL z h = omega arith
count_few SHARE z h = omega arith

module _ (k n : ℕ) (g : ℕ → Graph) where
  pub count_is : (r : Rule) (x y z : ℕ) → length (alternatives n g (move k r (triple x y z))) ≡ count_of r z
  unfolding alternatives
  count_is REFLEX x y z = refl
  count_is TRANS1 x y z = refl
  count_is TRANS2 x y z = refl
  count_is FUNC x y z = refl
  count_is CYCLE x y z = length-map (round n (g k) z x) (equal y) ∙ round-length n (g k) z x
  count_is SCC x y z = refl
  count_is TOTAL x y z = refl
  count_is SHARE x y z = refl

  at_one : (f d : Fact) (i : ℕ) → i < 1 → get_or (f ∷ []) i d ≡ f
  at_one f d zero h = refl
  at_one f d (suc i) h = absurd (omega arith)

  at_two : (f e d : Fact) (i : ℕ) → i < 2 → get_or (f ∷ e ∷ []) i d ≡ cond (eqb i 0) f e
  at_two f e d zero h = refl
  at_two f e d (suc zero) h = refl
  at_two f e d (suc (suc i)) h = absurd (omega arith)

  in_round : (x y z i : ℕ) (d : Fact) → i < z → get_or (map (equal y) (round n (g k) z x)) i d ≡ equal y (iterate (next n (g k)) i x)
  in_round x y z i d h = get_d_other (map (equal y) (round n (g k) z x)) i d (equal y 0)
      (omega (arith, length-map (round n (g k) z x) (equal y), round-length n (g k) z x)) ∙ get_or-map (equal y) (round n (g k) z x) i 0
      ∙ ap (equal y) (round_at n (g k) z x i 0 h)

  pub alternative_is : (r : Rule) (x y z i : ℕ) (d : Fact) → i < count_of r z → get_or (alternatives n g (move k r (triple x y z))) i d ≡ alternative_at k n (g k) r x y z i
  unfolding alternatives
  alternative_is REFLEX x y z i d h = at_one _ d i h
  alternative_is TRANS1 x y z i d h = at_one _ d i h
  alternative_is TRANS2 x y z i d h = at_one _ d i h
  alternative_is FUNC x y z i d h = at_two _ _ d i h
  alternative_is CYCLE x y z i d h = in_round x y z i d h
  alternative_is SCC x y z i d h = at_two _ _ d i h
  alternative_is TOTAL x y z i d h = at_two _ _ d i h
  alternative_is SHARE x y z i d h = at_one _ d i h
