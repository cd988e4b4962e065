-- Every pair of a start replaces another term, so that its joins are no more pairs than terms.
use Prim.Native.Nat.{ℕ, zero, suc, ◌+◌, ◌≤◌, ◌<◌}
use native.Mathlib.Omega.{arith}
use mathlib.Core.Path.{◌≡◌, refl, sym, ap, subst}
use mathlib.Core.Logic.{◌⊎◌, ⊎_elim, inl, inr}
use mathlib.Core.Bool.{Bool, true, false, not, cond, false≢true}
use mathlib.Core.List.Memᴰ
use mathlib.Core.List.{List, [], ◌∷◌, Memᴰ}
use lib.ListN.{length}
use lib.Dec.{eqb, ltb}
use borrow.Author.Tests.{le-ltb, lt-ltb}
use Rattle.logic.specs.Search.{◌and◌, select}
use Rattle.logic.specs.Query.{Query, term_count}
use Rattle.logic.specs.Facts.{Facts, Joined, live, links_of, start_joins}
use Rattle.logic.specs.JoinPairs.{times_replaced, Accounts}
use Rattle.theory.proofs.Basics.Search.{select_intro}
use Rattle.theory.proofs.Basics.Compare.{eqb_self, eqb_intro, eq_cases, le_cases, ltb-true, ltb_intro}
use Rattle.theory.proofs.Paths.Ranged.{InRange, live_range}
use Rattle.theory.proofs.Query.Tied.{Accepted}
use Rattle.theory.proofs.Joins.Pairs.{accounts_start}

-- the pairs whose replaced term is below k
below : ℕ → List (ℕ × ℕ) → ℕ
below k ps = length (select (λ ab. ltb ab.1 k) ps)

-- those below k + 1 replace k or a term below it
below_next : (k : ℕ) (ps : List (ℕ × ℕ)) → below (suc k) ps ≤ below k ps + times_replaced k ps
unfolding below select times_replaced
below_next k [] = omega arith
below_next k (ab ∷ ps) = go _ _ _ (ltb ab.1 (suc k)) (ltb ab.1 k) (eqb ab.1 k) split (below_next k ps)
  where
    lower : (x k : ℕ) → x < suc k → (x ≡ k → ⊥) → x < k
    lower x k l d = omega arith

    split : ltb ab.1 (suc k) ≡ true → (ltb ab.1 k ≡ true) ⊎ (eqb ab.1 k ≡ true)
    split h =
        let l = ltb-true ab.1 (suc k) h in
        ⊎_elim (λ e. inr (eqb_intro {m = ab.1} {n = k} e)) (λ d. inl (ltb_intro {m = ab.1} {n = k} (lower ab.1 k l d.0))) (eq_cases ab.1 k)

    go : (xs ys zs : List (ℕ × ℕ)) (b c d : Bool) → (b ≡ true → (c ≡ true) ⊎ (d ≡ true)) → length xs ≤ length ys + length zs →
        length (cond b (ab ∷ xs) xs) ≤ length (cond c (ab ∷ ys) ys) + length (cond d (ab ∷ zs) zs)
    go xs ys zs true true true s h = omega (arith, h)
    go xs ys zs true true false s h = omega (arith, h)
    go xs ys zs true false true s h = omega (arith, h)
    go xs ys zs true false false s h = ⊎_elim (λ e. absurd (false≢true e)) (λ e. absurd (false≢true e)) (s refl)
    go xs ys zs false true true s h = omega (arith, h)
    go xs ys zs false true false s h = omega (arith, h)
    go xs ys zs false false true s h = omega (arith, h)
    go xs ys zs false false false s h = omega (arith, h)

below_none : (ps : List (ℕ × ℕ)) → below 0 ps ≡ 0
unfolding below select
below_none [] = refl
below_none (ab ∷ ps) = rw (le-ltb ab.1 0 (omega arith)) (below_none ps)

-- all pairs replace terms below k
below_all : (k : ℕ) (ps : List (ℕ × ℕ)) → ((ab : ℕ × ℕ) → Memᴰ ab ps → ab.1 < k) → below k ps ≡ length ps
unfolding below select
below_all k [] h = refl
below_all k (ab ∷ ps) h = rw (lt-ltb ab.1 k (h ab (Memᴰ.head refl))) (ap suc (below_all k ps (λ x m. h x (Memᴰ.tail m))))

-- none is replaced twice, and 0 not at all
few : (k : ℕ) (ps : List (ℕ × ℕ)) → times_replaced 0 ps ≡ 0 → ((t : ℕ) → times_replaced t ps ≤ 1) → below (suc k) ps ≤ k
few zero ps z h = omega (arith, below_next 0 ps, below_none ps, z)
few (suc k) ps z h = omega (arith, below_next (suc k) ps, few k ps z h, h (suc k))

counted : (ps : List (ℕ × ℕ)) (ab : ℕ × ℕ) → Memᴰ ab ps → 1 ≤ times_replaced ab.1 ps
unfolding times_replaced
counted ps ab m = some-length _ (select_intro (λ x. eqb x.1 ab.1) ab m (eqb_self ab.1))
  where
    some-length : (xs : List (ℕ × ℕ)) → Memᴰ ab xs → 1 ≤ length xs
    some-length [] k = absurd (Memᴰ.not-nil k)
    some-length (x ∷ xs) k = omega arith

one : (b : Bool) → cond b 1 0 ≤ 1
one true = omega arith
one false = omega arith

gone : (x y : Bool) → 1 ≤ cond (x and y) 1 0 → x ≡ true
unfolding ◌and◌
gone true y h = refl
gone false y h = absurd (omega (arith, h))

module _ (n : ℕ) (s : Facts) (j : Joined) (a : Accounts n s j) where
  left : ℕ → Bool
  left t = not (live n j.facts t)

  once_at_most : (t : ℕ) → times_replaced t j.pairs ≤ 1
  unfolding left
  once_at_most t = subst (λ (k : ℕ). k ≤ 1) (sym (a.once t)) (one (live n s t and left t))

  -- a term that is replaced is one of n
  in_range : (t : ℕ) → 1 ≤ times_replaced t j.pairs → InRange n t
  unfolding left
  in_range t h = live_range n s t (gone (live n s t) (left t) (subst (λ (k : ℕ). 1 ≤ k) (a.once t) h))

  zero-none : times_replaced 0 j.pairs ≡ 0
  zero-none = ⊎_elim (λ h. absurd (let r = in_range 0 h in omega (arith, r.0))) (λ l. omega (arith, l)) (le_cases 1 (times_replaced 0 j.pairs))

  no_more : length j.pairs ≤ n
  no_more =
      omega (arith, below_all (suc n) j.pairs (λ ab m. let r = in_range ab.1 (counted j.pairs ab m) in omega (arith, r.1)), few n j.pairs zero-none once_at_most)

pub start_pairs : (q : Query) → Accepted q → length (start_joins q).pairs ≤ term_count q
start_pairs q acc = no_more (term_count q) (links_of q) (start_joins q) (accounts_start q acc)
