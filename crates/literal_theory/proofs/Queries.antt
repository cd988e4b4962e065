-- A literal over terms by number means in a heap what the query's literal means.
use Prim.Native.Nat.{ℕ, zero, suc}
use native.Mathlib.Omega.{arith}
use mathlib.Core.Path.{◌≡◌, refl, sym, ap, ◌∙◌, subst}
use mathlib.Core.Logic.{◌↔◌}
use mathlib.Core.Bool.{Bool, true, false}
use mathlib.Core.List.{List}
use Rattle.logic.specs.Query.{Entries, argument_of, link_of}
use Rattle.logic.specs.Heap.{IsHeap, Signed, Reaches, value_within, value, MeansEqual, MeansReach, MeansField}
use Rattle.theory.proofs.Basics.Search.{true-false, not-true, not_intro, not_of}
use Rattle.theory.proofs.Basics.Compare.{eqb-true, eqb_intro, eqb-false, cond-true, cond-false}
use Rattle.routine_logic.specs.State.{State}
use Rattle.routine_logic.specs.Formulas.{same_truth}
use Rattle.routine_theory.proofs.Means.{reaches_means}
use Rattle.literal_theory.specs.Forms.{equals, reach, next, bit, meets_form}

-- a signed test
signed_test : (b t : Bool) (A : Type 0) → ((t ≡ true) ↔ A) → (same_truth b t ≡ true) ↔ Signed b A
unfolding same_truth
signed_test true t A h = h
signed_test false t A h = (λ e a. true-false (h.1 a) (not-true e), λ k. not_intro (not_of (λ e. k (h.0 e))))

module _ (g : State) (is : IsHeap g) (start : State) (nodes : List ℕ) (entries : Entries) where
  -- a term that is a variable, or nil
  within_variable : (k t : ℕ) → argument_of entries t ≡ 0 → value_within g entries k t ≡ g.variable t
  unfolding value_within
  within_variable zero t e = refl
  within_variable (suc k) t e = cond-true _ _ (eqb_intro e)

  variable-value : (t : ℕ) → argument_of entries t ≡ 0 → value g entries t ≡ g.variable t
  unfolding value
  variable-value t e = within_variable t t e

  -- a term that is a link of a variable
  link-value : (t x i : ℕ) → argument_of entries (suc t) ≡ suc x → link_of entries (suc t) ≡ i → argument_of entries (suc x) ≡ 0 → value g entries (suc t) ≡ g.link i (g.variable (suc x))
  unfolding value value_within
  link-value t x i e l v =
      cond-false _ _ (eqb-false (argument_of entries (suc t)) 0 (λ z. absurd (omega (arith, e, z))))
      ∙ ap (λ (n : ℕ). g.link n (value_within g entries t (argument_of entries (suc t)))) l
      ∙ ap (λ (n : ℕ). g.link i (value_within g entries t n)) e
      ∙ ap (g.link i) (within_variable t (suc x) v)

  module _ (b : Bool) (x y : ℕ) (vx : argument_of entries x ≡ 0) (vy : argument_of entries y ≡ 0) where
    pub equals_means : (meets_form g start nodes g.variable (equals b x y) ≡ true) ↔ MeansEqual g entries (record { plain = b; link = 1; left = x; right = y })
    unfolding meets_form
    equals_means = signed_test b _ (value g entries x ≡ value g entries y) (
      λ e. variable-value x vx ∙ eqb-true _ _ e ∙ sym (variable-value y vy),
      λ e. eqb_intro (sym (variable-value x vx) ∙ e ∙ variable-value y vy),
    )

    pub reach_means : (i : ℕ) → (meets_form g start nodes g.variable (reach b i x y) ≡ true) ↔ MeansReach g entries (record { plain = b; link = i; left = x; right = y })
    unfolding meets_form
    reach_means i =
        let m = reaches_means g is i (g.variable x) (is.variable_node x) (g.variable y) in
        signed_test b _ (Reaches (g.link i) (value g entries x) (value g entries y)) (
          λ e. subst (λ (v : ℕ). Reaches (g.link i) v (value g entries y)) (sym (variable-value x vx))
              (subst (λ (v : ℕ). Reaches (g.link i) (g.variable x) v) (sym (variable-value y vy)) (m.0 e)),
          λ r. m.1 (subst (λ (v : ℕ). Reaches (g.link i) v (g.variable y)) (variable-value x vx)
              (subst (λ (v : ℕ). Reaches (g.link i) (value g entries x) v) (variable-value y vy) r)),
        )

  pub bit_means : (b : Bool) (j x : ℕ) → argument_of entries x ≡ 0 →
      (meets_form g start nodes g.variable (bit b j x) ≡ true) ↔ MeansField g entries (record { plain = b; link = 1; left = j; right = x })
  unfolding meets_form
  bit_means b j x v = signed_test b _ (g.field j (value g entries x) ≡ true) (λ e. ap (g.field j) (variable-value x v) ∙ e, λ e. ap (g.field j) (sym (variable-value x v)) ∙ e)

  -- "h(a) = b": a term and an equality
  pub next_means : (b : Bool) (i t x y : ℕ) → argument_of entries (suc t) ≡ suc x → link_of entries (suc t) ≡ i → argument_of entries (suc x) ≡ 0 → argument_of entries y ≡ 0 →
      (meets_form g start nodes g.variable (next b i (suc x) y) ≡ true) ↔ MeansEqual g entries (record { plain = b; link = 1; left = suc t; right = y })
  unfolding meets_form
  next_means b i t x y e l vx vy = signed_test b _ (value g entries (suc t) ≡ value g entries y) (
    λ q. link-value t x i e l vx ∙ eqb-true _ _ q ∙ sym (variable-value y vy),
    λ q. eqb_intro (sym (link-value t x i e l vx) ∙ q ∙ variable-value y vy),
  )
