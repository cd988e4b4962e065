-- The number that is given is that of the first wrong line, or 0 where the lines fit to the end.
use Prim.Native.Nat.{ℕ, suc, ◌+◌, ◌≤◌}
use native.Mathlib.Omega.{arith}
use mathlib.Core.Path.{◌≡◌, refl, sym, ap, ◌∙◌, subst}
use mathlib.Core.Logic.{◌⊎◌, ⊎_elim, inl, inr, ◌↔◌}
use mathlib.Core.List.{List, [], ◌∷◌, ◌++◌, append-nil}
use mathlib.Core.Option.{Option, none, some, Option-elim}
use lib.ListN.{length, length-append}
use Rattle.logic.specs.Query.{Query}
use Rattle.logic.specs.Facts.{Line}
use Rattle.logic.specs.Derivation.{Derivation}
use Rattle.checking.specs.Fitting.{Goal, step, start_goal, short_of, wrong_from, wrong_line, Fit, no_line, one_more, Unfit, FirstWrong}
use Rattle.checking.proofs.Trees.{derivation_fits, fit_derivation}

module _ (q : Query) where
  -- after a line that fits, and at one that does not

  pub wrong_step : (gs hs : List Goal) (i : ℕ) (l : Line) (ls : List Line) → step q gs l ≡ some hs → wrong_from q gs i (l ∷ ls) ≡ wrong_from q hs (suc i) ls
  unfolding wrong_from Option-elim
  wrong_step gs hs i l ls e = rw e

  pub wrong_here : (gs : List Goal) (i : ℕ) (l : Line) (ls : List Line) → step q gs l ≡ none → wrong_from q gs i (l ∷ ls) ≡ i
  unfolding wrong_from Option-elim
  wrong_here gs i l ls e = rw e

  fit_wrong : {gs hs : List Goal} {ls : List Line} → Fit q gs ls hs → (rest : List Line) (i : ℕ) → wrong_from q gs i (ls ++ rest) ≡ wrong_from q hs (length ls + i) rest
  fit_wrong (no_line {gs = gs}) rest i = ap (λ (k : ℕ). wrong_from q gs k rest) (omega arith)
  fit_wrong (one_more {gs = gs} {hs = hs} {ks = ks} l {ls = ls} e f) rest i =
      wrong_step gs hs i l (ls ++ rest) e ∙ fit_wrong f rest (suc i) ∙ ap (λ (k : ℕ). wrong_from q ks k rest) (omega arith)

  unfit_wrong : (gs : List Goal) (rest : List Line) (i : ℕ) → Unfit q gs rest → wrong_from q gs i rest ≡ i
  unfolding wrong_from short_of
  unfit_wrong [] [] i u = absurd (u refl)
  unfit_wrong (g ∷ gs) [] i u = refl
  unfit_wrong gs (l ∷ ls) i u = wrong_here gs i l ls u

  -- lines fit to the end, or some line is the first that does not
  abbrev Fails : List Goal → List Line → Type 0
  Fails gs ls = (before : List Line) × (rest : List Line) × (hs : List Goal) × (ls ≡ before ++ rest) × Fit q gs before hs × Unfit q hs rest

  judged : (ls : List Line) (gs : List Goal) → Fit q gs ls [] ⊎ Fails gs ls
  judged [] [] = inl no_line
  judged [] (g ∷ gs) = inr ([], [], g ∷ gs, refl, no_line, λ e. let z : length (g ∷ gs) ≡ 0 = ap length e in omega arith)
  judged (l ∷ ls) gs = at_step (step q gs l) (judged ls) refl
    where
      at_step : (o : Option (List Goal)) → ((hs : List Goal) → Fit q hs ls [] ⊎ Fails hs ls) → step q gs l ≡ o → Fit q gs (l ∷ ls) [] ⊎ Fails gs (l ∷ ls)
      at_step none ih e = inr ([], l ∷ ls, gs, refl, no_line, e)
      at_step (some hs) ih e =
          ⊎_elim (λ f. inl (one_more l e f))
          (λ d. let (before, rest, ks, s, f, u) = d in inr (l ∷ before, rest, ks, ap (λ (x : List Line). l ∷ x) s, one_more l e f, u))
          (ih hs)

  fit-zero : (ls : List Line) → Fit q (start_goal q ∷ []) ls [] → wrong_line q ls ≡ 0
  unfolding wrong_line wrong_from short_of
  fit-zero ls f = ap (wrong_from q (start_goal q ∷ []) 1) (sym (append-nil ls)) ∙ fit_wrong f [] 1

  first_wrong : (ls : List Line) (k : ℕ) → FirstWrong q ls k → wrong_line q ls ≡ k
  unfolding wrong_line
  first_wrong ls k w =
      ap (wrong_from q (start_goal q ∷ []) 1) w.split ∙ fit_wrong w.fit w.rest 1 ∙ unfit_wrong w.goals w.rest (length w.before + 1) w.unfit
      ∙ omega (arith, w.number)

  fails_first : (ls : List Line) → Fails (start_goal q ∷ []) ls → (k : ℕ) × FirstWrong q ls k
  fails_first ls d =
      let (before, rest, hs, s, f, u) = d in
      (suc (length before), record { before = before; rest = rest; goals = hs; split = s; number = refl; fit = f; unfit = u })

  -- 0 exactly for derivations
  pub zero_exactly : (ls : List Line) → (wrong_line q ls ≡ 0) ↔ Derivation q ls
  zero_exactly ls = (
    λ e. ⊎_elim (fit_derivation q ls) (λ d. let (k, w) = fails_first ls d in absurd (omega (arith, e, first_wrong ls k w, w.number))) (judged ls (start_goal q ∷ [])),
    λ d. fit-zero ls (derivation_fits q d),
  )

  -- and else the first wrong line's number
  pub wrong_number : (ls : List Line) (k : ℕ) → (wrong_line q ls ≡ suc k) ↔ FirstWrong q ls (suc k)
  wrong_number ls k = (
    λ e. ⊎_elim (λ f. absurd (omega (arith, e, fit-zero ls f)))
        (λ d. let (j, w) = fails_first ls d in subst (FirstWrong q ls) (sym (first_wrong ls j w) ∙ e) w)
        (judged ls (start_goal q ∷ [])),
    first_wrong ls (suc k),
  )

  -- it is 1 up to one more than there are lines
  pub first_placed : (ls : List Line) (k : ℕ) → FirstWrong q ls k → (1 ≤ k) × (k ≤ length ls + 1)
  first_placed ls k w = (
    omega (arith, w.number),
    omega (arith, w.number, ap length w.split, length-append w.before w.rest),
  )
