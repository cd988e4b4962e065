-- What terms were replaced by, read and written.
use Prim.Native.Nat.{ℕ, ◌+◌, ◌≤◌}
use native.Mathlib.Omega.{arith}
use mathlib.Core.Path.{◌≡◌, refl, sym, ◌∙◌}
use mathlib.Core.Bool.{false, cond}
use mathlib.Core.List.{List}
use lib.ListN.{length, get_or, set}
use lib.Seq.{get_or-set_same, get_or-set_other}
use lib.Dec.{eqb}
use borrow.Author.Tests.{lt-ltb, le-ltb, ne_eqb}
use Rattle.facts.specs.Path.{rep_of, replace_rep}
use Rattle.rows.proofs.Fill.{Filled, filled_old, filled_more, filled_all}

pub rep_in : (rep : List ℕ) (t : ℕ) → t ≤ 16 → rep_of rep t ≡ get_or rep t 0
unfolding rep_of
rep_in rep t h = rw (lt-ltb t 17 (omega arith))

pub rep_beyond : (rep : List ℕ) (t : ℕ) → 17 ≤ t → rep_of rep t ≡ t
unfolding rep_of
rep_beyond rep t h = rw (le-ltb t 17 h)

module _ (rep : List ℕ) (t : ℕ) (v : ℕ) where
  pub rep_same : length rep ≡ 17 → t ≤ 16 → rep_of (set rep t v) t ≡ v
  rep_same full h = rep_in (set rep t v) t h ∙ get_or-set_same rep t v 0 (omega arith)

  pub rep_other : (x : ℕ) → (x ≡ t → ⊥) → rep_of (set rep t v) x ≡ rep_of rep x
  unfolding rep_of
  rep_other x n = rw (get_or-set_other rep t x v 0 n)

-- one more term is renamed; and all are
module _ (lo hi : ℕ) (rep : List ℕ) where
  pub renamed_more : (t : ℕ) → t ≤ 16 → (cur : List ℕ) → length cur ≡ 17 → (v : ℕ) → v ≡ cond (eqb (get_or cur t 0) hi) lo (get_or cur t 0) →
      Filled (replace_rep lo hi (rep_of rep)) (rep_of rep) t (rep_of cur) → Filled (replace_rep lo hi (rep_of rep)) (rep_of rep) (t + 1) (rep_of (set cur t v))
  unfolding replace_rep
  renamed_more t h cur full v e m = filled_more _ _ t (rep_of cur) _ (rep_same cur t v full h ∙ e ∙ rw old) (rep_other cur t v) m
    where
      old : get_or cur t 0 ≡ rep_of rep t
      old = sym (rep_in cur t h) ∙ filled_old _ _ t (rep_of cur) m

  -- a term that hi does not stand for stays as it is
  pub kept_more : (t : ℕ) → t ≤ 16 → (cur : List ℕ) → eqb (get_or cur t 0) hi ≡ false →
      Filled (replace_rep lo hi (rep_of rep)) (rep_of rep) t (rep_of cur) → Filled (replace_rep lo hi (rep_of rep)) (rep_of rep) (t + 1) (rep_of cur)
  unfolding replace_rep
  kept_more t h cur e m = filled_more _ _ t (rep_of cur) _ (old ∙ sym (rw other)) (λ x n. refl) m
    where
      old : rep_of cur t ≡ rep_of rep t
      old = filled_old _ _ t (rep_of cur) m

      other : eqb (rep_of rep t) hi ≡ false
      other = rw (sym old ∙ rep_in cur t h) e

  pub renamed_all : hi ≤ 16 → (cur : List ℕ) → Filled (replace_rep lo hi (rep_of rep)) (rep_of rep) 17 (rep_of cur) → rep_of cur ≡ replace_rep lo hi (rep_of rep)
  unfolding replace_rep
  renamed_all h cur m = filled_all _ _ 17 (rep_of cur) m (λ x o. rw (rep_beyond rep x o, ne_eqb x hi (omega arith)))
