-- A loop that fills a table from the front: what it has done so far. A table is a function of its place, whatever it holds.
use Prim.Native.Nat.{ℕ, ◌+◌, ◌≤◌}
use native.Mathlib.Omega.{arith}
use mathlib.Core.Path.{◌≡◌, sym, ◌∙◌, fun_ext}
use mathlib.Core.Logic.{⊎_elim}
use mathlib.Core.Bool.{true, false, cond}
use lib.Dec.{ltb, eqb}
use borrow.Author.Tests.{lt-ltb, le-ltb, ltb-true, ltb-false, eqb-true, eqb-false}
use Rattle.theory.proofs.Basics.Search.{bool_cases}

pub ltb_next : (x a : ℕ) → (x ≡ a → ⊥) → ltb x (a + 1) ≡ ltb x a
ltb_next x a n =
    ⊎_elim
    (λ t. let h = ltb-true x a t in lt-ltb x (a + 1) (omega arith) ∙ sym t)
    (λ t. let h = ltb-false x a t in le-ltb x (a + 1) (omega arith) ∙ sym t)
    (bool_cases (ltb x a))

-- below t the table is as `new` says, and from t on as `old` says
abbrev pub Filled : {A : Type 0} → (ℕ → A) → (ℕ → A) → ℕ → (ℕ → A) → Type 0
Filled new old t cur = (x : ℕ) → cur x ≡ cond (ltb x t) (new x) (old x)

module _ {A : Type 0} (new old : ℕ → A) where
  pub filled_none : Filled new old 0 old
  filled_none x = rw (le-ltb x 0 (omega arith))

  -- what stands at t before it is written
  pub filled_old : (t : ℕ) (cur : ℕ → A) → Filled new old t cur → cur t ≡ old t
  filled_old t cur m = m t ∙ rw (le-ltb t t (omega arith))

  -- the table is written at t
  pub filled_more : (t : ℕ) (cur next : ℕ → A) → next t ≡ new t → ((x : ℕ) → (x ≡ t → ⊥) → next x ≡ cur x) → Filled new old t cur → Filled new old (t + 1) next
  filled_more t cur next here there m x = ⊎_elim same other (bool_cases (eqb x t))
    where
      same : eqb x t ≡ true → next x ≡ cond (ltb x (t + 1)) (new x) (old x)
      same e = let p = eqb-true x t e in rw (p, lt-ltb t (t + 1) (omega arith)) here

      other : eqb x t ≡ false → next x ≡ cond (ltb x (t + 1)) (new x) (old x)
      other e = let p = eqb-false x t e in there x p ∙ rw (ltb_next x t p) (m x)

  -- from the end on there is nothing to do
  pub filled_all : (t : ℕ) (cur : ℕ → A) → Filled new old t cur → ((x : ℕ) → t ≤ x → old x ≡ new x) → cur ≡ new
  filled_all t cur m beyond = fun_ext (λ x. m x ∙ ⊎_elim (λ e. rw e) (λ e. rw e (beyond x (ltb-false x t e))) (bool_cases (ltb x t)))
