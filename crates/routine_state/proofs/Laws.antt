-- Reads of a state as the code makes them.
use Prim.Native.Nat.{ℕ, suc, ◌+◌, ◌*◌, ◌-◌, ◌≤◌, ◌<◌}
use native.Mathlib.Omega.{arith}
use borrow.Author.Tests.{lt-ltb, le-ltb, eq-eqb, ne_eqb}
use mathlib.Core.Path.{◌≡◌, refl, ap, sym, ◌∙◌}
use mathlib.Core.Bool.{Bool, true, false, cond, ◌&&◌}
use mathlib.Core.List.{List}
use lib.ListN.{get_or}
use lib.Dec.{eqb, ltb, leb}
use Rattle.logic.specs.Search.{◌and◌}
use Rattle.between_search.specs.Tests.{step_count}
use Rattle.routine_logic.specs.Formulas.{reaches_by, between_by}
use Rattle.routine_state.specs.States.{node_in, in_rows, link_in, flag_in, variable_in, state_in}

-- the two forms of and
ands : (a b c : Bool) → (a && b) && c ≡ a and b and c
unfolding ◌and◌
ands true true c = refl
ands true false c = refl
ands false b c = refl

-- Rows: a row too high, a place too far, and a place in a row
module _ {A : Type 0} (most i v : ℕ) (other a : A) where
  pub row_high : most < i → other ≡ in_rows most i v other a
  unfolding in_rows
  row_high h = rw (lt-ltb most i h)

  pub row_far : i ≤ most → 31 < v → other ≡ in_rows most i v other a
  unfolding in_rows
  row_far h k = rw (le-ltb most i h, lt-ltb 31 v k)

  pub row_here : i ≤ most → v ≤ 31 → in_rows most i v other a ≡ a
  unfolding in_rows
  row_here h k = rw (le-ltb most i h, le-ltb 31 v k)

module _ (bytes : List ℕ) where
  pub link_high : (i v : ℕ) → 3 < i → 1 ≡ link_in bytes i v
  unfolding link_in
  link_high i v h = row_high 3 i v 1 _ h

  pub link_far : (i v : ℕ) → i ≤ 3 → 31 < v → 1 ≡ link_in bytes i v
  unfolding link_in
  link_far i v h k = row_far 3 i v 1 _ h k

  pub link_here : (i v : ℕ) → i ≤ 3 → v ≤ 31 → node_in bytes (32 * i + v) ≡ link_in bytes i v
  unfolding link_in
  link_here i v h k = sym (row_here 3 i v 1 _ h k)

  pub flag_high : (j v : ℕ) → 8 < j → false ≡ flag_in bytes j v
  unfolding flag_in
  flag_high j v h = row_high 8 j v false _ h

  pub flag_far : (j v : ℕ) → j ≤ 8 → 31 < v → false ≡ flag_in bytes j v
  unfolding flag_in
  flag_far j v h k = row_far 8 j v false _ h k

  pub flag_here : (j v : ℕ) → j ≤ 8 → v ≤ 31 → eqb (get_or bytes (128 + 32 * j + v) 0) 1 ≡ flag_in bytes j v
  unfolding flag_in
  flag_here j v h k = sym (row_here 8 j v false _ h k)

  pub variable_far : (x : ℕ) → 31 < x → 1 ≡ variable_in bytes x
  unfolding variable_in
  variable_far x h = rw (lt-ltb 31 x h)

  pub variable_here : (x : ℕ) → x ≤ 31 → node_in bytes (416 + x) ≡ variable_in bytes x
  unfolding variable_in
  variable_here x h = rw (le-ltb 31 x h)

  pub reaches_is : (i v w k n : ℕ) → n ≡ node_in bytes 448 → k ≡ step_count (link_in bytes i) (node_in bytes 448) v w → ltb k n ≡ reaches_by (state_in bytes) i v w
  unfolding reaches_by
  reaches_is i v w k n e h = rw (e, h)

  pub between_is : (i x y z k m n : ℕ) → n ≡ node_in bytes 448 → k ≡ step_count (link_in bytes i) (node_in bytes 448) x y → m ≡ step_count (link_in bytes i) (node_in bytes 448) x z →
      (ltb k n && ltb m n) && leb k m ≡ between_by (state_in bytes) i x y z
  unfolding between_by reaches_by
  between_is i x y z k m n e h l = rw (e, h, l) (ands _ _ _)

-- the count among n, where n is known as m
pub steps_whole : (f : ℕ → ℕ) (n m v w k : ℕ) → n ≡ m → step_count f n v w ≡ k → k ≡ step_count f m v w
steps_whole f n m v w k e h = sym h ∙ ap (λ (j : ℕ). step_count f j v w) e

-- The least step count among n: what is counted and what is left make the whole.
module _ (f : ℕ → ℕ) (n w : ℕ) where
  pub steps-here : (k v : ℕ) → k < n → v ≡ w → k + step_count f (n - k) v w ≡ k
  unfolding step_count
  steps-here k v h e = ap (λ (j : ℕ). k + step_count f j v w) left ∙ ap (λ (b : Bool). k + cond b 0 (suc (step_count f (n - (k + 1)) (f v) w))) (eq-eqb v w e) ∙ omega arith
    where
      left : n - k ≡ suc (n - (k + 1))
      left = omega arith

  pub steps_next : (k v u : ℕ) → k < n → (v ≡ w → ⊥) → u ≡ f v → k + step_count f (n - k) v w ≡ (k + 1) + step_count f (n - (k + 1)) u w
  unfolding step_count
  steps_next k v u h d e =
      ap (λ (j : ℕ). k + step_count f j v w) left
      ∙ ap (λ (b : Bool). k + cond b 0 (suc (step_count f (n - (k + 1)) (f v) w))) (ne_eqb v w d)
      ∙ ap (λ (x : ℕ). k + suc (step_count f (n - (k + 1)) x w)) (sym e)
      ∙ omega arith
    where
      left : n - k ≡ suc (n - (k + 1))
      left = omega arith

  pub steps_end : (k v : ℕ) → n ≤ k → k ≤ n → k + step_count f (n - k) v w ≡ n
  unfolding step_count
  steps_end k v h u = ap (λ (j : ℕ). k + step_count f j v w) none ∙ omega arith
    where
      none : n - k ≡ 0
      none = omega arith
