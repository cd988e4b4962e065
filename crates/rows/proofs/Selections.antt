-- Searches over a selection of the numbers from k below m, as a loop over k meets them.
use Prim.Native.Nat.{ℕ, zero, suc, ◌+◌, ◌-◌, ◌≤◌, ◌<◌}
use native.Mathlib.Omega.{arith}
use mathlib.Core.Path.{◌≡◌, refl, ap, ◌∙◌}
use mathlib.Core.Bool.{Bool, true, false, not, cond, ◌&&◌}
use mathlib.Core.List.{List, [], ◌∷◌}
use mathlib.Core.Option.{Option, none, some}
use Rattle.logic.specs.Search.{◌and◌, ◌or◌, from, keep, or_else, any, all, select, first_of, find}
use Rattle.logic.specs.Facts.{terms}
use Rattle.rows.proofs.Loops.{from_end, from_next}

pub terms-from : (n : ℕ) → terms n ≡ from (n + 1 - 1) 1
unfolding terms
terms-from n = ap (λ (j : ℕ). from j 1) (one_less)
  where
    one_less : n ≡ n + 1 - 1
    one_less = omega arith

module _ (f : ℕ → Bool) (m : ℕ) where
  pub any_end : (k : ℕ) → m ≤ k → any f (from (m - k) k) ≡ false
  unfolding any
  any_end k h = rw (from_end m k h)

  pub any_here : (k : ℕ) → k < m → f k ≡ true → any f (from (m - k) k) ≡ true
  unfolding any ◌or◌
  any_here k h e = rw (from_next m k h, e)

  pub any_next : (k : ℕ) → k < m → f k ≡ false → any f (from (m - k) k) ≡ any f (from (m - (k + 1)) (k + 1))
  unfolding any ◌or◌
  any_next k h e = rw (from_next m k h, e)

  pub any_turn : (k : ℕ) → k < m → any f (from (m - k) k) ≡ f k or any f (from (m - (k + 1)) (k + 1))
  unfolding any
  any_turn k h = rw (from_next m k h)

module _ (q : ℕ → Bool) (m : ℕ) where
  pub select_end : (k : ℕ) → m ≤ k → select q (from (m - k) k) ≡ []
  unfolding select
  select_end k h = rw (from_end m k h)

  pub select_here : (k : ℕ) → k < m → q k ≡ true → select q (from (m - k) k) ≡ k ∷ select q (from (m - (k + 1)) (k + 1))
  unfolding select
  select_here k h e = rw (from_next m k h, e)

  pub select_skip : (k : ℕ) → k < m → q k ≡ false → select q (from (m - k) k) ≡ select q (from (m - (k + 1)) (k + 1))
  unfolding select
  select_skip k h e = rw (from_next m k h, e)

-- a test of what is selected, as a test of all
module _ (q p : ℕ → Bool) where
  pub all_selected : (xs : List ℕ) → all p (select q xs) ≡ not (any (λ x. q x && not (p x)) xs)
  unfolding all select any ◌and◌ ◌or◌
  all_selected [] = refl
  all_selected (x ∷ xs) = go (q x) (p x) refl (all_selected xs)
    where
      go : (a b : Bool) → p x ≡ b → all p (select q xs) ≡ not (any (λ y. q y && not (p y)) xs) → all p (cond a (x ∷ select q xs) (select q xs)) ≡ not ((a && not b) or any (λ y. q y && not (p y)) xs)
      go true true e ih = rw e ih
      go true false e ih = rw e
      go false b e ih = ih

  pub any_selected : (xs : List ℕ) → any p (select q xs) ≡ any (λ x. q x && p x) xs
  unfolding any select ◌or◌
  any_selected [] = refl
  any_selected (x ∷ xs) = go (q x) (any_selected xs)
    where
      go : (a : Bool) → any p (select q xs) ≡ any (λ y. q y && p y) xs → any p (cond a (x ∷ select q xs) (select q xs)) ≡ (a && p x) or any (λ y. q y && p y) xs
      go true ih = ap (λ (b : Bool). p x or b) ih
      go false ih = ih

  pub find_selected : (xs : List ℕ) → find p (select q xs) ≡ find (λ x. q x && p x) xs
  unfolding find first_of select keep or_else
  find_selected [] = refl
  find_selected (x ∷ xs) = go (q x) (find_selected xs)
    where
      go : (a : Bool) → find p (select q xs) ≡ find (λ y. q y && p y) xs → find p (cond a (x ∷ select q xs) (select q xs)) ≡ or_else (keep (a && p x) x) (find (λ y. q y && p y) xs)
      go true ih = ap (or_else (keep (p x) x)) ih
      go false ih = ih

  pub select_selected : (xs : List ℕ) → select p (select q xs) ≡ select (λ x. q x and p x) xs
  unfolding select ◌and◌
  select_selected [] = refl
  select_selected (x ∷ xs) = go (q x) (select_selected xs)
    where
      go : (a : Bool) → select p (select q xs) ≡ select (λ y. q y and p y) xs →
          select p (cond a (x ∷ select q xs) (select q xs)) ≡ cond (a and p x) (x ∷ select (λ y. q y and p y) xs) (select (λ y. q y and p y) xs)
      go true ih = ap (λ (ys : List ℕ). cond (p x) (x ∷ ys) ys) ih
      go false ih = ih

pub and_both : (a b : Bool) → a && b ≡ a and b
unfolding ◌and◌
and_both true b = refl
and_both false b = refl

pub and_four : (a b c d : Bool) → ((a && b) && c) && d ≡ (a and b and c and d)
and_four a b c d = and_both ((a && b) && c) d ∙ ap (λ (p : Bool). p and d) (and_both (a && b) c ∙ ap (λ (p : Bool). p and c) (and_both a b))

pub find_nothing : (p : ℕ → Bool) (xs : List ℕ) → ((x : ℕ) → p x ≡ false) → find p xs ≡ none
unfolding find first_of keep or_else
find_nothing p [] h = refl
find_nothing p (x ∷ xs) h = rw (h x) (find_nothing p xs h)

abbrev pub first : List ℕ → Option ℕ
first [] = none
first (x ∷ xs) = some x

-- what a search finds is selected first
pub find_first : (q : ℕ → Bool) (xs : List ℕ) → find q xs ≡ first (select q xs)
unfolding find first_of select keep or_else
find_first q [] = refl
find_first q (x ∷ xs) = go (q x) (find_first q xs)
  where
    go : (t : Bool) → find q xs ≡ first (select q xs) → or_else (keep t x) (find q xs) ≡ first (cond t (x ∷ select q xs) (select q xs))
    go true ih = refl
    go false ih = ih

-- two tests that agree on the k numbers from i on
pub select_alike : (p q : ℕ → Bool) (k i : ℕ) → ((x : ℕ) → i ≤ x → x < i + k → p x ≡ q x) → select p (from k i) ≡ select q (from k i)
unfolding select from
select_alike p q zero i h = refl
select_alike p q (suc k) i h = rw (h i (omega arith) (omega arith)) (ap (λ (xs : List ℕ). cond (q i) (i ∷ xs) xs) (select_alike p q k (suc i) (λ x l r. h x (omega arith) (omega arith))))

pub and_failed : {a : Bool} (b : Bool) → a ≡ false → false ≡ a and b
unfolding ◌and◌
and_failed b e = rw e

pub and-rest : {a : Bool} (b : Bool) → a ≡ true → b ≡ a and b
unfolding ◌and◌
and-rest b e = rw e
