-- A block is read statement by statement: how often it may be followed plays no part, once it is as often as it is long.
use Prim.Native.Nat.{ℕ, zero, suc, ◌-◌, ◌≤◌, ◌<◌}
use native.Mathlib.Omega.{arith}
use borrow.Author.Tests.{ltb-true, leb-true, lt-ltb, le-ltb, eq-eqb, ne_eqb}
use mathlib.Core.Path.{◌≡◌, refl, ap, ap₂, sym, ◌∙◌}
use mathlib.Core.Bool.{Bool, true, false, cond, false≢true}
use lib.Dec.{eqb, ltb, leb}
use Rattle.logic.specs.Search.{◌and◌}
use Rattle.routine_logic.specs.Syntax.{Code, end}
use Rattle.routine_table.specs.Cells.{Table, statement_cell}
use Rattle.routine_table.specs.Routines.{simple_of, second_of, behind, splits, encloses, branch_of, loop_of, code_within, code_of}
use Rattle.routine_table.proofs.Formulas.{cond_same}

and_left : (a b : Bool) → a and b ≡ true → a ≡ true
unfolding ◌and◌
and_left true b h = refl
and_left false b h = h

and_right : (a b : Bool) → a and b ≡ true → b ≡ true
unfolding ◌and◌
and_right true b h = h
and_right false b h = absurd (false≢true h)

module _ (t : Table) (s e : ℕ) where
  -- a `while` whose block lies in the one around it
  pub encloses-first : encloses t s e ≡ true → s < behind t s
  unfolding encloses
  encloses-first h = ltb-true s (behind t s) (and_left _ _ h)

  pub encloses_last : encloses t s e ≡ true → behind t s ≤ e
  unfolding encloses
  encloses_last h = leb-true (behind t s) e (and_right _ _ h)

  -- an `if` whose blocks do
  pub splits-first : splits t s e ≡ true → s < second_of t s
  unfolding splits
  splits-first h = ltb-true s (second_of t s) (and_left _ _ (and_left _ _ h))

  pub splits_middle : splits t s e ≡ true → second_of t s ≤ behind t s
  unfolding splits
  splits_middle h = leb-true (second_of t s) (behind t s) (and_right (ltb s (second_of t s)) _ (and_left _ _ h))

  pub splits_last : splits t s e ≡ true → behind t s ≤ e
  unfolding splits
  splits_last h = leb-true (behind t s) e (and_right (ltb s (second_of t s) and leb (second_of t s) (behind t s)) _ h)

module _ (t : Table) where
  within_none : (n s e : ℕ) → e ≤ s → code_within t n s e ≡ end
  unfolding code_within
  within_none zero s e h = refl
  within_none (suc n) s e h = rw (le-ltb s e h)

  -- what follows is alike where the blocks within are
  module _ (m n s e : ℕ) (h : e - s ≤ suc m) (k : e - s ≤ suc n) (alike : (a b : ℕ) → b - a ≤ m → b - a ≤ n → code_within t m a b ≡ code_within t n a b) where
    same_simple : s < e → simple_of t s (code_within t m (suc s) e) ≡ simple_of t s (code_within t n (suc s) e)
    same_simple l = ap (simple_of t s) (alike (suc s) e (omega (arith, h, l)) (omega (arith, k, l)))

    same_branch : splits t s e ≡ true → branch_of t s (code_within t m (suc s) (second_of t s)) (code_within t m (second_of t s) (behind t s)) (code_within t m (behind t s) e) ≡ branch_of t s
        (code_within t n (suc s) (second_of t s)) (code_within t n (second_of t s) (behind t s)) (code_within t n (behind t s) e)
    same_branch l =
        let a = splits-first t s e l in
        let b = splits_middle t s e l in
        let c = splits_last t s e l in
        let first = alike (suc s) (second_of t s) (omega (arith, a, b, c, h)) (omega (arith, a, b, c, k)) in
        let second = alike (second_of t s) (behind t s) (omega (arith, a, b, c, h)) (omega (arith, a, b, c, k)) in
        let rest = alike (behind t s) e (omega (arith, a, b, c, h)) (omega (arith, a, b, c, k)) in
        λ i. branch_of t s (first i) (second i) (rest i)

    same_loop : encloses t s e ≡ true → loop_of t s (code_within t m (suc s) (behind t s)) (code_within t m (behind t s) e) ≡ loop_of t s (code_within t n (suc s) (behind t s))
        (code_within t n (behind t s) e)
    same_loop l =
        let a = encloses-first t s e l in
        let b = encloses_last t s e l in
        ap₂ (λ (x y : Code). loop_of t s x y)
        (alike (suc s) (behind t s) (omega (arith, a, b, h)) (omega (arith, a, b, k)))
        (alike (behind t s) e (omega (arith, a, b, h)) (omega (arith, a, b, k)))

    same_step : code_within t (suc m) s e ≡ code_within t (suc n) s e
    unfolding code_within
    same_step = cond_same (ltb s e) _ _ end (λ l.
        ap₂ (λ (x y : Code). cond (eqb (statement_cell t s 0) 10) x y) (cond_same (splits t s e) _ _ end same_branch)
        (ap₂ (λ (x y : Code). cond (eqb (statement_cell t s 0) 11) x y) (cond_same (encloses t s e) _ _ end same_loop) (same_simple (ltb-true s e l))))

  pub within_same : (m n s e : ℕ) → e - s ≤ m → e - s ≤ n → code_within t m s e ≡ code_within t n s e
  within_same zero n s e h k = within_none zero s e (omega (arith, h)) ∙ sym (within_none n s e (omega (arith, h)))
  within_same (suc m) zero s e h k = within_none (suc m) s e (omega (arith, k)) ∙ sym (within_none zero s e (omega (arith, k)))
  within_same (suc m) (suc n) s e h k = same_step m n s e h k (λ a b. within_same m n a b)

  -- a block's end; a statement without blocks; an `if`; a `while`
  pub code_end : (s e : ℕ) → e ≤ s → code_of t s e ≡ end
  unfolding code_of
  code_end s e h = within_none (e - s) s e h

  code_within_lem : (s e : ℕ) → code_of t s e ≡ code_within t (suc e) s e
  unfolding code_of
  code_within_lem s e = within_same (e - s) (suc e) s e (omega arith) (omega arith)

  enough : (n s e : ℕ) → e ≤ n → code_within t n s e ≡ code_of t s e
  unfolding code_of
  enough n s e h = within_same n (e - s) s e (omega (arith, h)) (omega arith)

  module _ (s e : ℕ) (inside : s < e) where
    pub code_simple : (statement_cell t s 0 ≡ 10 → ⊥) → (statement_cell t s 0 ≡ 11 → ⊥) → code_of t s e ≡ simple_of t s (code_of t (suc s) e)
    unfolding code_within
    code_simple a b =
        code_within_lem s e ∙ rw (lt-ltb s e inside, ne_eqb (statement_cell t s 0) 10 a, ne_eqb (statement_cell t s 0) 11 b) (ap (simple_of t s) (enough e (suc s) e (omega arith)))

    pub code_branch : statement_cell t s 0 ≡ 10 → splits t s e ≡ true → code_of t s e ≡ branch_of t s (code_of t (suc s) (second_of t s)) (code_of t (second_of t s) (behind t s)) (code_of t (behind t s) e)
    unfolding code_within
    code_branch a b =
        let first = enough e (suc s) (second_of t s) (omega (arith, splits_middle t s e b, splits_last t s e b)) in
        let second = enough e (second_of t s) (behind t s) (splits_last t s e b) in
        let rest = enough e (behind t s) e (omega arith) in
        code_within_lem s e ∙ rw (lt-ltb s e inside, eq-eqb (statement_cell t s 0) 10 a, b) (λ i. branch_of t s (first i) (second i) (rest i))

    pub code_loop : statement_cell t s 0 ≡ 11 → encloses t s e ≡ true → code_of t s e ≡ loop_of t s (code_of t (suc s) (behind t s)) (code_of t (behind t s) e)
    unfolding code_within
    code_loop a b =
        code_within_lem s e
        ∙ rw (lt-ltb s e inside, ne_eqb (statement_cell t s 0) 10 (λ q. absurd (omega (arith, a, q))), eq-eqb (statement_cell t s 0) 11 a, b)
        (ap₂ (λ (x y : Code). loop_of t s x y) (enough e (suc s) (behind t s) (encloses_last t s e b)) (enough e (behind t s) e (omega arith)))
