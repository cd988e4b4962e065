-- A step loses no state and adds none: what meets a formula meets all of one of its alternatives, and the other way round.
use Prim.Native.Nat.{ℕ}
use mathlib.Core.Path.{◌≡◌, refl, sym, ◌∙◌}
use mathlib.Core.Logic.{◌↔◌, ⊎_elim}
use mathlib.Core.Bool.{Bool, true, false, not, false≢true}
use mathlib.Core.List.{List, [], ◌∷◌}
use Rattle.logic.specs.Search.{◌and◌, ◌or◌, any, all}
use Rattle.theory.proofs.Basics.Search.{bool_cases, and_left, and_right, and_intro, or_cases, or_left, or_right, not_intro}
use Rattle.routine_logic.specs.State.{State}
use Rattle.routine_logic.specs.Formulas.{same_truth}
use Rattle.literal_theory.specs.Forms.{Form, truth, equals, reach, next, bit, kept, meet, join, meets_form, negations, alternatives}
use Rattle.literal_theory.proofs.Literals.{other_truth}

module _ {A : Type 0} (g start : State) (nodes : List ℕ) (node : A → ℕ) where
  abbrev met : Form A → Bool
  met = meets_form g start nodes node

  -- all of some, and all of one of some
  abbrev all_met : List (Form A) → Bool
  all_met = all met

  abbrev one_met : List (List (Form A)) → Bool
  one_met = any all_met

  denied : (b t : Bool) → same_truth b t ≡ false → same_truth (not b) t ≡ true
  denied b t h = other_truth b t ∙ not_intro h

  negations-met : (f : Form A) → met f ≡ false → all_met (negations f) ≡ true
  unfolding negations meets_form all
  negations-met (truth b) h = and_intro (not_intro h) refl
  negations-met (equals b x y) h = and_intro (denied b _ h) refl
  negations-met (reach b i x y) h = and_intro (denied b _ h) refl
  negations-met (next b i x y) h = and_intro (denied b _ h) refl
  negations-met (bit b j x) h = and_intro (denied b _ h) refl
  negations-met (kept p e f) h = refl
  negations-met (meet f k) h = refl
  negations-met (join f k) h = refl

  single : (f : Form A) → (met f ≡ true) ↔ (one_met ((f ∷ []) ∷ []) ≡ true)
  unfolding any all
  single f = (λ h. or_left _ (and_intro h refl), λ h. ⊎_elim (λ z. and_left _ _ z) (λ z. absurd (false≢true z)) (or_cases (met f and true) false h))

  pub alternatives_exact : (f : Form A) → (met f ≡ true) ↔ (one_met (alternatives f) ≡ true)
  unfolding alternatives any all meets_form
  alternatives_exact (truth true) = (λ h. or_left false refl, λ h. refl)
  alternatives_exact (truth false) = (λ h. h, λ h. h)
  alternatives_exact (equals b x y) = single (equals b x y)
  alternatives_exact (reach b i x y) = single (reach b i x y)
  alternatives_exact (next b i x y) = single (next b i x y)
  alternatives_exact (bit b j x) = single (bit b j x)
  alternatives_exact (kept p e f) = single (kept p e f)
  alternatives_exact (meet f k) = (
    λ h. or_left _ (and_intro (and_left _ _ h) (and_intro (and_right (met f) _ h) refl)),
    λ h. ⊎_elim (λ z. and_intro (and_left _ _ z) (and_left _ _ (and_right (met f) _ z))) (λ z. absurd (false≢true z)) (or_cases (met f and (met k and true)) false h),
  )
  alternatives_exact (join f k) = (
    λ h. ⊎_elim
        (λ e. or_left _ (and_intro e refl))
        (λ e. or_right (met f and true) (or_left _ (and_intro (second f k h e) (negations-met f e))))
        (bool_cases (met f)),
    λ h. ⊎_elim
        (λ z. or_left _ (and_left _ _ z))
        (λ z. ⊎_elim (λ y. or_right (met f) (and_left _ _ y)) (λ y. absurd (false≢true y)) (or_cases (met k and all_met (negations f)) false z))
        (or_cases (met f and true) _ h),
  )
    where
      second : (f k : Form A) → met f or met k ≡ true → met f ≡ false → met k ≡ true
      second f k h e = ⊎_elim (λ z. absurd (false≢true (sym e ∙ z))) (λ z. z) (or_cases (met f) (met k) h)
