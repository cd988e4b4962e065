-- What becomes of facts where a term is replaced: they are the facts read through a substitution.
use Prim.Native.Nat.{ℕ}
use mathlib.Core.Path.{◌≡◌, refl, sym, ap, ◌∙◌, subst}
use mathlib.Core.Logic.{◌⊎◌, ⊎_elim, inl, inr}
use mathlib.Core.Bool.{Bool, true, false, cond}
use mathlib.Core.List.Memᴰ
use mathlib.Core.List.{[], ◌∷◌, Memᴰ}
use lib.Dec.{eqb}
use Rattle.logic.specs.Search.{any}
use Rattle.logic.specs.Facts.{became, replace_in}
use Rattle.theory.proofs.Basics.Search.{any-true, any_intro, true-false}
use Rattle.theory.proofs.Basics.Compare.{eqb-true, eqb_self, eqb_intro, eqb-false, eq_cases, cond-true, cond-false}

-- hi replaced by lo
unfoldable pub sub : ℕ → ℕ → ℕ → ℕ
sub lo hi x = cond (eqb x hi) lo x

pub sub_hit : (lo hi : ℕ) → sub lo hi hi ≡ lo
unfolding sub
sub_hit lo hi = cond-true lo hi (eqb_self hi)

pub sub_miss : (lo hi x : ℕ) → (x ≡ hi → ⊥) → sub lo hi x ≡ x
unfolding sub
sub_miss lo hi x d = ⊎_elim (λ e. absurd (d e)) (λ p. cond-false lo x p.1) (eq_cases x hi)

module _ (lo hi : ℕ) where
  -- the terms listed as those that become a do
  pub became-mem : (a x : ℕ) → Memᴰ x (became lo hi a) → sub lo hi x ≡ a
  unfolding became
  became-mem a x m = go (eqb a hi) (eqb a lo) refl refl m
    where
      go : (b c : Bool) → eqb a hi ≡ b → eqb a lo ≡ c → Memᴰ x (cond b [] (cond c (lo ∷ hi ∷ []) (a ∷ []))) → sub lo hi x ≡ a
      go true c p q m = absurd (Memᴰ.not-nil m)
      go false true p q m =
          let e = eqb-true a lo q in
          ⊎_elim
          (λ r. ap (sub lo hi) (r ∙ sym e) ∙ sub_miss lo hi a (λ z. true-false (eqb_intro z) p))
          (λ n. ap (sub lo hi) (Memᴰ.eq_of_singleton n) ∙ sub_hit lo hi ∙ sym e)
          (Memᴰ.cases_cons m)
      go false false p q m =
          let e = Memᴰ.eq_of_singleton m in
          ap (sub lo hi) e ∙ sub_miss lo hi a (λ z. true-false (eqb_intro z) p)

  -- and all that do are listed
  pub became_intro : (lo ≡ hi → ⊥) → (x : ℕ) → Memᴰ x (became lo hi (sub lo hi x))
  unfolding became
  became_intro d x =
      ⊎_elim
      (λ e. subst (λ (a : ℕ). Memᴰ x (became lo hi a)) (sym (sub_hit lo hi) ∙ ap (sub lo hi) (sym e)) (at_lo x (inr e)))
      (λ p. subst (λ (a : ℕ). Memᴰ x (became lo hi a)) (sym (sub_miss lo hi x p.0))
      (⊎_elim (λ e. subst (λ (a : ℕ). Memᴰ x (became lo hi a)) (sym e) (at_lo x (inl e))) (λ r. elsewhere p.1 r.1) (eq_cases x lo)))
      (eq_cases x hi)
    where
      at_lo : (x : ℕ) → (x ≡ lo) ⊎ (x ≡ hi) → Memᴰ x (became lo hi lo)
      at_lo x o =
          rw (became, eqb-false lo hi d, eqb_self lo) (⊎_elim (λ e. Memᴰ.head e) (λ e. Memᴰ.tail (Memᴰ.head e)) o)

      elsewhere : eqb x hi ≡ false → eqb x lo ≡ false → Memᴰ x (became lo hi x)
      elsewhere p q = rw (became, p, q) (Memᴰ.head refl)

  module _ (R : ℕ → ℕ → Bool) where
    pub replace_in-true : (a b : ℕ) → replace_in lo hi R a b ≡ true → (x : ℕ) × (y : ℕ) × (R x y ≡ true) × (sub lo hi x ≡ a) × (sub lo hi y ≡ b)
    unfolding replace_in
    replace_in-true a b h =
        let p = any-true (λ x. any (R x) (became lo hi b)) (became lo hi a) h in
        let q = any-true (R p.0) (became lo hi b) p.2 in
        (p.0, q.0, q.2, became-mem a p.0 p.1, became-mem b q.0 q.1)

    pub replace_in_intro : (lo ≡ hi → ⊥) → (x y : ℕ) → R x y ≡ true → replace_in lo hi R (sub lo hi x) (sub lo hi y) ≡ true
    unfolding replace_in
    replace_in_intro d x y h =
        any_intro (λ x'. any (R x') (became lo hi (sub lo hi y))) x (became_intro d x) (any_intro (R x) y (became_intro d y) h)
