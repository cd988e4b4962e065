-- What a part says, by its kind.
use Prim.Native.Nat.{ℕ, zero, suc, ◌+◌, ◌-◌, ◌%◌, ◌≤◌, ◌<◌}
use native.Mathlib.Numerals.{add-one}
use native.Mathlib.Omega.{arith}
use native.Mathlib.Decide.{ℕ_discrete}
use borrow.Author.Tests.{ne_eqb}
use mathlib.Core.Path.{◌≡◌, refl, ap, ap₂, sym, ◌∙◌}
use mathlib.Core.Logic.{◌⊎◌, ⊎_elim}
use mathlib.Core.Bool.{Bool, true, false, not, ◌&&◌, ◌||◌}
use mathlib.Core.List.{List, [], ◌∷◌}
use lib.ListN.{length, set, drop, length-set}
use lib.Seq.{get_or-set_same, get_or-set_other}
use lib.Dec.{eqb}
use Rattle.logic.specs.Search.{◌and◌, ◌or◌, all, from}
use Rattle.routine_logic.specs.Syntax.{Formula}
use Rattle.routine_logic.specs.State.{State}
use Rattle.routine_logic.specs.Formulas.{Bound, node, reaches_by, between_by, same_truth, holds}
use Rattle.routine_table.specs.Cells.{Table, part_cell}
use Rattle.routine_table.specs.Formulas.{part_term, atom_of, join_of, formula_at, formula_below, formula_of}
use Rattle.routine_table.proofs.Formulas.{formula_at_lem, below_here, below_none, formula_of_lem}
use Rattle.routine_formulas.specs.Names.{bound_in, Kept, truth_of}

module _ (s : State) (e : Bound) (t : Table) (i k : ℕ) (kind : k ≡ part_cell t i 0) where
  is : (n : ℕ) → k ≡ n → part_cell t i 0 ≡ n
  is n h = sym kind ∙ h

  not_is : (n : ℕ) → (k ≡ n → ⊥) → eqb (part_cell t i 0) n ≡ false
  not_is n h = ne_eqb (part_cell t i 0) n (λ q. h (kind ∙ q))

  -- atoms
  pub atom_always : k ≡ 1 → true ≡ holds s e (atom_of t i)
  unfolding holds atom_of
  atom_always h = rw (is 1 h)

  pub atom_equal : (v w : ℕ) → k ≡ 2 → v ≡ node s e (part_term t i 1) → w ≡ node s e (part_term t i 2) → eqb v w ≡ holds s e (atom_of t i)
  unfolding holds atom_of
  atom_equal v w h a b = rw (is 2 h, a, b)

  pub atom_unequal : (v w : ℕ) → k ≡ 3 → v ≡ node s e (part_term t i 1) → w ≡ node s e (part_term t i 2) → not (eqb v w) ≡ holds s e (atom_of t i)
  unfolding holds atom_of
  atom_unequal v w h a b = rw (is 3 h, a, b)

  pub atom_reaches : (n v w : ℕ) (r : Bool) → k ≡ 4 → n ≡ part_cell t i 4 → v ≡ node s e (part_term t i 1) → w ≡ node s e (part_term t i 2) → r ≡ reaches_by s n v w → r ≡ holds s e (atom_of t i)
  unfolding holds atom_of
  atom_reaches n v w r h m a b q = q ∙ rw (is 4 h, m, a, b)

  pub atom_between : (n v w u : ℕ) (r : Bool) → k ≡ 5 → n ≡ part_cell t i 4 → v ≡ node s e (part_term t i 1) → w ≡ node s e (part_term t i 2) → u ≡ node s e (part_term t i 3) → r ≡
      between_by s n v w u → r ≡ holds s e (atom_of t i)
  unfolding holds atom_of
  atom_between n v w u r h m a b c q = q ∙ rw (is 5 h, m, a, b, c)

  pub atom_flag : (n v : ℕ) (r : Bool) → k ≡ 6 → n ≡ part_cell t i 4 → v ≡ node s e (part_term t i 1) → r ≡ s.field n v → r ≡ holds s e (atom_of t i)
  unfolding holds atom_of
  atom_flag n v r h m a q = q ∙ rw (is 6 h, m, a)

  pub atom_never : (k ≡ 1 → ⊥) → (k ≡ 6 → ⊥) → (k ≡ 2 → ⊥) → (k ≡ 3 → ⊥) → (k ≡ 4 → ⊥) → (k ≡ 5 → ⊥) → false ≡ holds s e (atom_of t i)
  unfolding holds atom_of
  atom_never a f b c d g = rw (not_is 1 a, not_is 2 b, not_is 3 c, not_is 4 d, not_is 5 g, not_is 6 f)

  -- a part from its sides
  abbrev first : Formula
  first = formula_below t i (part_cell t i 1)

  abbrev second : Formula
  second = formula_below t i (part_cell t i 2)

  pub part_atom : (r : Bool) → (k < 7) ⊎ (12 < k) → r ≡ holds s e (atom_of t i) → r ≡ holds s e (formula_at t i)
  unfolding join_of
  part_atom r h q = q ∙ sym (ap (holds s e) (formula_at_lem t i ∙ atom))
    where
      other : (n : ℕ) → 7 ≤ n → n ≤ 12 → eqb (part_cell t i 0) n ≡ false
      other n a b = not_is n (λ m. ⊎_elim (λ l. absurd (omega (arith, m, l, a))) (λ l. absurd (omega (arith, m, l, b))) h)

      atom : join_of t i first second ≡ atom_of t i
      atom = rw (
        other 7 (omega arith) (omega arith),
        other 8 (omega arith) (omega arith),
        other 9 (omega arith) (omega arith),
        other 10 (omega arith) (omega arith),
        other 11
            (omega arith) (omega arith),
        other 12 (omega arith) (omega arith),
      )

  pub part_negation : (a : Bool) → k ≡ 7 → a ≡ holds s e first → not a ≡ holds s e (formula_at t i)
  unfolding holds join_of
  part_negation a h q = ap not q ∙ sym (ap (holds s e) (formula_at_lem t i) ∙ rw (is 7 h))

  pub part_everywhere : (r : Bool) → k ≡ 12 → r ≡ all (λ v. holds s (v ∷ e) first) (from s.size 1) → r ≡ holds s e (formula_at t i)
  unfolding holds join_of
  part_everywhere r h q = q ∙ sym (ap (holds s e) (formula_at_lem t i) ∙ rw (is 12 h))

  join_truth : 8 ≤ k → k ≤ 11 → truth_of k (holds s e first) (holds s e second) ≡ holds s e (join_of t i first second)
  unfolding holds join_of truth_of
  join_truth l u = elim (ℕ_discrete k 8) [
    | yes q ↦ rw (is 8 q, q)
    | no a ↦ elim (ℕ_discrete k 9) [
      | yes q ↦ rw (is 9 q, q)
      | no b ↦ elim (ℕ_discrete k 10) [
        | yes q ↦ rw (is 10 q, q)
        | no c ↦ let q : k ≡ 11 = omega (arith, l, u, a, b, c) in rw (is 11 q, q)
      ]
    ]
  ]

  pub part_joined : (r a b : Bool) → 7 ≤ k → k ≤ 12 → (k ≡ 7 → ⊥) → (k ≡ 12 → ⊥) → a ≡ holds s e first → b ≡ holds s e second → r ≡ truth_of k a b → r ≡ holds s e (formula_at t i)
  part_joined r a b l u x y p q h =
      h ∙ ap₂ (λ (m n : Bool). truth_of k m n) p q ∙ join_truth (omega (arith, l, x)) (omega (arith, u, y)) ∙ sym (ap (holds s e) (formula_at_lem t i))

-- a side that stands before its part, and one that does not
module _ (s : State) (e : Bound) (t : Table) where
  pub side_here : (n j : ℕ) (r : Bool) (m : ℕ) → m ≡ j → m < n → r ≡ holds s e (formula_at t m) → r ≡ holds s e (formula_below t n j)
  side_here n j r m q h a = a ∙ sym (ap (holds s e) (ap (formula_below t n) (sym q) ∙ below_here t n m h))

  pub side_none : (n j m : ℕ) → m ≡ j → n ≤ m → false ≡ holds s e (formula_below t n j)
  unfolding holds
  side_none n j m q h = sym (ap (holds s e) (ap (formula_below t n) (sym q) ∙ below_none t n m h))

  pub whole_here : (i : ℕ) (r : Bool) → i < 3072 → r ≡ holds s e (formula_at t i) → r ≡ holds s e (formula_of t i)
  whole_here i r h a = a ∙ sym (ap (holds s e) (formula_of_lem t i ∙ below_here t 3072 i h))

  pub whole_none : (i : ℕ) → 3072 ≤ i → false ≡ holds s e (formula_of t i)
  unfolding holds
  whole_none i h = sym (ap (holds s e) (formula_of_lem t i ∙ below_none t 3072 i h))

-- names that are bound, and those that stay
pub bound_other : (xs : List ℕ) (d at v : ℕ) → d ≤ at → bound_in (set xs at v) d ≡ bound_in xs d
unfolding bound_in
bound_other xs zero at v h = refl
bound_other xs (suc d) at v h =
    ap₂ (λ (w : ℕ) (e : Bound). w ∷ e) (ap (λ (w : ℕ). w % 32) (get_or-set_other xs at d v 0 (λ q. absurd (omega (arith, h, q))))) (bound_other xs d at v (omega arith))

pub bound_more : (xs : List ℕ) (d v : ℕ) → d < length xs → v ≤ 31 → bound_in (set xs d v) (d + 1) ≡ v ∷ bound_in xs d
unfolding bound_in
bound_more xs d v h k =
    rw (add-one d)
    (ap₂ (λ (w : ℕ) (e : Bound). w ∷ e) (ap (λ (w : ℕ). w % 32) (get_or-set_same xs d v 0 h) ∙ omega arith) (bound_other xs d d v (omega arith)))

pub kept_less : (xs ys : List ℕ) (d v : ℕ) (e : Bound) → bound_in ys (d + 1) ≡ bound_in xs (d + 1) → bound_in xs (d + 1) ≡ v ∷ e → bound_in ys d ≡ e
unfolding bound_in
kept_less xs ys d v e k h = ap (λ (es : Bound). drop 1 (es)) (ap (bound_in ys) (sym (add-one d)) ∙ k ∙ h)

pub kept_refl : (xs : List ℕ) (d : ℕ) → Kept xs xs d
kept_refl xs d = record { same_length = refl; same_names = refl }

pub kept_trans : {xs ys zs : List ℕ} {d : ℕ} → Kept xs ys d → Kept ys zs d → Kept xs zs d
kept_trans a b = record { same_length = b.same_length ∙ a.same_length; same_names = b.same_names ∙ a.same_names }

module _ (xs ys : List ℕ) (d : ℕ) (kept : Kept xs ys d) where
  pub kept_truth : (s : State) (f : Formula) (r : Bool) → r ≡ holds s (bound_in ys d) f → r ≡ holds s (bound_in xs d) f
  kept_truth s f r h = h ∙ ap (λ (e : Bound). holds s e f) kept.same_names

  -- one more name is bound, and gone again
  module _ (v : ℕ) (inside : d < length ys) (small : v ≤ 31) where
    more_names : bound_in (set ys d v) (d + 1) ≡ v ∷ bound_in xs d
    more_names = bound_more ys d v inside small ∙ ap (λ (e : Bound). v ∷ e) kept.same_names

    pub turn_truth : (s : State) (f : Formula) (r : Bool) → r ≡ holds s (bound_in (set ys d v) (d + 1)) f → r ≡ holds s (v ∷ bound_in xs d) f
    turn_truth s f r h = h ∙ ap (λ (e : Bound). holds s e f) more_names

    pub turn_kept : (zs : List ℕ) → Kept (set ys d v) zs (d + 1) → Kept xs zs d
    turn_kept zs more =
        record {
          same_length = more.same_length ∙ length-set ys d v ∙ kept.same_length;
          same_names = kept_less (set ys d v) zs d v (bound_in xs d) more.same_names more_names;
        }

-- no name is bound
pub none_bound : (s : State) (f : Formula) (xs : List ℕ) (r : Bool) → r ≡ holds s (bound_in xs 0) f → r ≡ holds s [] f
unfolding bound_in
none_bound s f xs r h = h

pub room_inside : (xs ys : List ℕ) (d i : ℕ) → length ys ≡ length xs → d + i < length xs → d < length ys
room_inside xs ys d i e h = omega (arith, e, h)

-- all nodes, counted as a loop does
pub all_nodes : (f : ℕ → Bool) (m n : ℕ) (b : Bool) → m ≡ n → all f (from (m + 1 - 1) 1) ≡ b → b ≡ all f (from n 1)
all_nodes f m n b e h = sym h ∙ ap (λ (k : ℕ). all f (from k 1)) count
  where
    count : m + 1 - 1 ≡ n
    count = omega (arith, e)

-- the code's operations on truths
ands : (a b : Bool) → a && b ≡ a and b
unfolding ◌and◌
ands true b = refl
ands false b = refl

ors : (a b : Bool) → a || b ≡ a or b
unfolding ◌or◌
ors true b = refl
ors false b = refl

sames : (a b : Bool) → (a && b) || (not a && not b) ≡ same_truth a b
unfolding same_truth
sames true true = refl
sames true false = refl
sames false true = refl
sames false false = refl

module _ (k : ℕ) (a b : Bool) where
  pub truth_and : k ≡ 8 → a && b ≡ truth_of k a b
  unfolding truth_of
  truth_and h = rw h (ands a b)

  pub truth_or : k ≡ 9 → a || b ≡ truth_of k a b
  unfolding truth_of
  truth_or h = rw h (ors a b)

  pub truth_implies : k ≡ 10 → not a || b ≡ truth_of k a b
  unfolding truth_of
  truth_implies h = rw h (ors (not a) b)

  pub truth_same : (k ≡ 8 → ⊥) → (k ≡ 9 → ⊥) → (k ≡ 10 → ⊥) → (a && b) || (not a && not b) ≡ truth_of k a b
  unfolding truth_of
  truth_same x y z = rw (ne_eqb k 8 x, ne_eqb k 9 y, ne_eqb k 10 z) (sames a b)
