-- Tests and searches as the code's loops meet them: what is left equals the whole.
use Prim.Native.Nat.{ℕ, suc, ◌+◌, ◌-◌, ◌≤◌, ◌<◌}
use native.Mathlib.Nat.{sub-zero}
use native.Mathlib.Numerals.{add-one}
use native.Mathlib.Omega.{arith}
use mathlib.Core.Path.{◌≡◌, refl, sym, ap, ◌∙◌}
use mathlib.Core.Bool.{Bool, true, false, not, ◌&&◌}
use mathlib.Core.List.{List, [], ◌∷◌, map}
use mathlib.Core.Option.{none, some, Option-elim}
use lib.ListN.{length, set, take}
use lib.Seq.{take_all, take-suc-set}
use lib.Dec.{eqb}
use borrow.Author.Tests.{eq-eqb, ne_eqb}
use Rattle.logic.specs.Search.{◌and◌, ◌or◌, from, any, all}
use Rattle.theory.proofs.Basics.Compare.{eq_cases}
use Rattle.std.specs.List.{list_any}
use mathlib.Core.Logic.{⊎_elim}
use Rattle.ordering.specs.Sheet.{Pair, count_of, pair_at, pairs}
use Rattle.ordering.specs.Finding.{free, ready, next_rule, grow}

-- r is among the numbers placed, by the library's test
pub placed_by : (r : ℕ) (placed : List ℕ) → list_any (λ y. eqb y r) placed ≡ any (eqb r) placed
unfolding any ◌or◌
placed_by r [] = refl
placed_by r (x ∷ xs) = ⊎_elim
    (λ e. rw (eq-eqb x r e, eq-eqb r x (sym e)))
    (λ d. rw (d.1, ne_eqb r x (λ e. d.0 (sym e))) (placed_by r xs))
    (eq_cases x r)

-- the tests of pairs, pair by pair

all_map : {A : Type 0} (f : A → Bool) (g : ℕ → A) (xs : List ℕ) → all f (map g xs) ≡ all (λ x. f (g x)) xs
unfolding all
all_map f g [] = refl
all_map f g (x ∷ xs) = ap (λ (b : Bool). f (g x) and b) (all_map f g xs)

module _ (sheet : List ℕ) (f : Pair → Bool) where
  pub all-pairs : all f (pairs sheet) ≡ all (λ i. f (pair_at sheet i)) (from (count_of sheet - 0) 0)
  unfolding pairs
  all-pairs = all_map f (pair_at sheet) (from (count_of sheet) 0) ∙ ap (λ (n : ℕ). all (λ i. f (pair_at sheet i)) (from n 0)) (sym (sub-zero (count_of sheet)))

-- a pair holds a rule back, as the code tests it
pub held_back : (a b t : Bool) → a && not b ≡ t → not a or b ≡ not t
unfolding ◌or◌
held_back true true t h = ap not h
held_back true false t h = ap not h
held_back false b t h = ap not h

pub free_test : (placed : List ℕ) (r : ℕ) (p : Pair) (t : Bool) → eqb p.later r && not (any (eqb p.earlier) placed) ≡ t → free placed r p ≡ not t
unfolding free
free_test placed r p t h = held_back (eqb p.later r) (any (eqb p.earlier) placed) t h

pub ready-placed : (ps : List Pair) (placed : List ℕ) (r : ℕ) → any (eqb r) placed ≡ true → ready ps placed r ≡ false
unfolding ready ◌and◌
ready-placed ps placed r h = rw h

pub ready-free : (ps : List Pair) (placed : List ℕ) (r : ℕ) → any (eqb r) placed ≡ false → ready ps placed r ≡ all (free placed r) ps
unfolding ready ◌and◌
ready-free ps placed r h = rw h

-- The order list

module _ (ps : List Pair) where
  pub grow_stuck : (n : ℕ) (placed : List ℕ) → n < 8 → next_rule ps placed ≡ none → grow ps (8 - n) placed ≡ none
  unfolding grow Option-elim
  grow_stuck n placed h e = ap (λ (k : ℕ). grow ps k placed) left ∙ rw e
    where
      left : 8 - n ≡ suc (8 - (n + 1))
      left = omega arith

  pub grow-placed : (n : ℕ) (list : List ℕ) (r : ℕ) → n < 8 → length list ≡ 8 → next_rule ps (take n list) ≡ some r → grow ps (8 - n) (take n list) ≡ grow ps (8 - (n + 1)) (take (n + 1) (set list n r))
  unfolding grow Option-elim
  grow-placed n list r h l e =
      ap (λ (k : ℕ). grow ps k (take n list)) left
      ∙ rw e (ap (grow ps (8 - (n + 1))) (sym (take-suc-set list n r (omega arith)) ∙ ap (λ (m : ℕ). take m (set list n r)) (sym (add-one n))))
    where
      left : 8 - n ≡ suc (8 - (n + 1))
      left = omega arith

  pub grow_whole : (n : ℕ) (list : List ℕ) → 8 ≤ n → n ≤ 8 → length list ≡ 8 → grow ps (8 - n) (take n list) ≡ some list
  unfolding grow
  grow_whole n list h k l = ap (λ (m : ℕ). grow ps m (take n list)) (left) ∙ ap some (take_all n list (omega arith))
    where
      left : 8 - n ≡ 0
      left = omega arith
