-- Links that come round: what `returns` and `round` say, step by step.
use Prim.Native.Nat.{ℕ, zero, suc, ◌≤◌}
use native.Mathlib.Omega.{arith}
use mathlib.Core.Path.{◌≡◌, refl, sym, ap, ◌∙◌, subst}
use mathlib.Core.Logic.{◌⊎◌, ⊎_elim, inl, inr}
use mathlib.Core.Bool.{Bool, true, false, cond, false≢true}
use mathlib.Core.List.Memᴰ
use mathlib.Core.List.{Memᴰ}
use mathlib.Core.Option.{Option, none, some, get_or}
use lib.Dec.{eqb}
use Rattle.logic.specs.Search.{find}
use Rattle.logic.specs.Facts.{Graph, terms}
use Rattle.logic.specs.Rules.{next, returns, round}
use Rattle.theory.proofs.Basics.Search.{find-some}
use Rattle.theory.proofs.Basics.Compare.{eqb-true}

-- a successor that is a term is linked
pub next-link : (n : ℕ) (g : Graph) (c : ℕ) → 1 ≤ next n g c → g.link c (next n g c) ≡ true
unfolding next
next-link n g c l = go (find (g.link c) (terms n)) refl l
  where
    go : (o : Option ℕ) → find (g.link c) (terms n) ≡ o → 1 ≤ get_or o 0 → g.link c (get_or o 0) ≡ true
    go none e l = absurd (omega arith)
    go (some b) e l = (find-some (g.link c) (terms n) b e).1

-- Links from c that return to x after k steps, in a graph whose links are from terms
module _ (n : ℕ) (g : Graph) (x : ℕ) where
  -- they lead to x at the next step, or from there
  pub returns_cases : (k c : ℕ) → returns n g x (suc k) c ≡ true → ((next n g c ≡ x) × (k ≡ 0)) ⊎ (returns n g x k (next n g c) ≡ true)
  unfolding returns
  returns_cases k c h = go (eqb (next n g c) x) refl h
    where
      go : (b : Bool) → eqb (next n g c) x ≡ b → cond b (eqb k 0) (returns n g x k (next n g c)) ≡ true → ((next n g c ≡ x) × (k ≡ 0)) ⊎ (returns n g x k (next n g c) ≡ true)
      go true e h = inl (eqb-true (next n g c) x e, eqb-true k 0 h)
      go false e h = inr h

  pub round-head : (k c : ℕ) → returns n g x k c ≡ true → Memᴰ c (round n g k c)
  unfolding returns round
  round-head zero c h = absurd (false≢true h)
  round-head (suc k) c h = Memᴰ.head refl

  module _ (is_term : 1 ≤ x) (from_term : (a b : ℕ) → g.link a b ≡ true → 1 ≤ a) where
    -- 0 is no term and nothing leads on from it, so every step on the way is to a term
    next_term : (k c : ℕ) → returns n g x (suc k) c ≡ true → 1 ≤ next n g c
    unfolding returns
    next_term zero c h = ⊎_elim (λ e. let d = e.0 in omega arith) (λ r. absurd (false≢true r)) (returns_cases zero c h)
    next_term (suc k) c h =
        let d = next n g c in
        ⊎_elim (λ e. let z = e.0 in omega arith) (λ r. from_term d (next n g d) (next-link n g d (next_term k d r))) (returns_cases (suc k) c h)

    -- and it is to one of the terms round, or to x
    pub round-next : (k c d : ℕ) → returns n g x k c ≡ true → Memᴰ d (round n g k c) → (1 ≤ next n g d) × ((next n g d ≡ x) ⊎ Memᴰ (next n g d) (round n g k c))
    unfolding round
    round-next zero c d h m = absurd (Memᴰ.not-nil m)
    round-next (suc k) c d h m =
        ⊎_elim
        (λ e.
        let q : next n g d ≡ next n g c = ap (next n g) e in
        let p = next_term k c h in
        (omega arith, ⊎_elim (λ r. inl (q ∙ r.0)) (λ r. inr (Memᴰ.tail (Memᴰ.cast q (round-head k (next n g c) r)))) (returns_cases k c h)))
        (λ l.
        ⊎_elim (λ r. absurd (Memᴰ.not-nil (subst (λ (j : ℕ). Memᴰ d (round n g j (next n g c))) r.1 l)))
        (λ r. let p = round-next k (next n g c) d r l in (p.0, ⊎_elim inl (λ i. inr (Memᴰ.tail i)) p.1))
        (returns_cases k c h))
        (Memᴰ.cases_cons m)

    -- so what holds of c, and of wherever a link leads, holds of every term round
    pub round_all : (P : ℕ → Type 0) → ((a b : ℕ) → g.link a b ≡ true → P b) → (k c : ℕ) → returns n g x k c ≡ true → P c → (u : ℕ) → Memᴰ u (round n g k c) → P u
    unfolding round
    round_all P linked zero c h p u m = absurd (Memᴰ.not-nil m)
    round_all P linked (suc k) c h p u m =
        ⊎_elim
        (λ e. subst P (sym e) p)
        (λ l.
        ⊎_elim (λ r. absurd (Memᴰ.not-nil (subst (λ (j : ℕ). Memᴰ u (round n g j (next n g c))) r.1 l)))
        (λ r. round_all P linked k (next n g c) r (linked c (next n g c) (next-link n g c (next_term k c h))) u l)
        (returns_cases k c h))
        (Memᴰ.cases_cons m)
