-- What is left of a stack when kinds are read: the laws for each move of the machine.
use Prim.Native.Nat.{ℕ}
use mathlib.Core.Path.{◌≡◌, refl, sym, ap, ◌∙◌, subst}
use mathlib.Core.List.{[], ◌∷◌, ◌++◌, append_assoc, tail-eq_of_cons-eq}
use mathlib.Core.Option.{some, some_inj}
use lib.ListN.{get_elem?}
use Rattle.grammar_theory.specs.Grammar.{token, rule, action, Symbols, Kinds, Grammar, alternatives, Step, shift, act, Steps, Derives, reading, acting, expanding}
use Rattle.grammar_theory.specs.Machine.{Table, predicted, after}
use Rattle.grammar_theory.specs.LL1.{Facts}
use Rattle.grammar_theory.specs.Claims.{Leaves, Any, Next}
use Rattle.grammar_theory.proofs.Derivations.{derives_token, derives_action}
use Rattle.grammar_theory.proofs.Passed.{get_elem_mem, Passed}
use Rattle.grammar_theory.proofs.Prediction.{Fitting, derives_taken}

module _ {g : Grammar} where
  pub leaves_refl : (P : Kinds → Type 0) (ss : Symbols) → Leaves g P ss [] [] ss
  leaves_refl P ss = record { forth = λ rest steps q d. (steps, refl, d); back = λ rest more q d. d }

  pub leaves_trans : {P Q : Kinds → Type 0} {ss ss₁ ss₂ : Symbols} {read₁ read₂ : Kinds} {done₁ done₂ : Steps} →
      ((rest : Kinds) → Q rest → P (read₂ ++ rest)) → Leaves g P ss read₁ done₁ ss₁ → Leaves g Q ss₁ read₂ done₂ ss₂ →
      Leaves g Q ss (read₁ ++ read₂) (done₁ ++ done₂) ss₂
  leaves_trans {ss} {ss₂} {read₁} {read₂} {done₁} {done₂} through l m =
      record {
        forth = λ rest steps q d.
            let one = l.forth (read₂ ++ rest) steps (through rest q) (subst (λ (x : Kinds). Derives g ss x steps) (append_assoc read₁ read₂ rest) d) in
            let two = m.forth rest one.0 q one.2 in
            (two.0, one.1 ∙ ap (λ (x : Steps). done₁ ++ x) two.1 ∙ sym (append_assoc done₁ done₂ two.0), two.2);
        back = λ rest more q d.
            let two = m.back rest more q d in
            let one = l.back (read₂ ++ rest) (done₂ ++ more) (through rest q) two in
            subst (λ (x : Steps). Derives g ss ((read₁ ++ read₂) ++ rest) x) (sym (append_assoc done₁ done₂ more))
            (subst (λ (x : Kinds). Derives g ss x (done₁ ++ (done₂ ++ more))) (sym (append_assoc read₁ read₂ rest)) one);
      }

  pub leaves_token : (k : ℕ) (ss : Symbols) → Leaves g Any (token k ∷ ss) (k ∷ []) (shift k ∷ []) ss
  leaves_token k ss =
      record {
        forth = λ rest steps q d.
            let parts = derives_token d in
            (parts.1, parts.3, subst (λ (x : Kinds). Derives g ss x parts.1) (sym (tail-eq_of_cons-eq parts.2)) parts.4);
        back = λ rest more q d. reading d;
      }

  pub leaves_action : (P : Kinds → Type 0) (a : ℕ) (ss : Symbols) → Leaves g P (action a ∷ ss) [] (act a ∷ []) ss
  leaves_action P a ss =
      record { forth = λ rest steps q d. let parts = derives_action d in (parts.0, parts.1, parts.2); back = λ rest more q d. acting d }

  -- a rule that is expanded as the table says, before a token of the kind that was looked at
  pub leaves_rule : {t : Table} {c : Facts} {start : ℕ} → Passed g t c start → (k r : ℕ) (alternative ss : Symbols) →
      get_elem? (alternatives g r) (predicted t r k) ≡ some alternative → Fitting g t c (rule r ∷ ss) →
      Leaves g (Next k) (rule r ∷ ss) [] [] (alternative ++ ss)
  leaves_rule {t} p k r alternative ss e f =
      record {
        forth = λ rest steps q d.
            let taken = derives_taken p r ss d f in
            let at = ap (λ (x : ℕ). get_elem? (alternatives g r) (predicted t r x)) q in
            let same : taken.0 ≡ alternative = some_inj.0 (sym taken.1 ∙ at ∙ e) in
            (steps, refl, subst (λ (x : Symbols). Derives g (x ++ ss) rest steps) same taken.2);
        back = λ rest more q d. expanding alternative (get_elem_mem (alternatives g r) _ e) d;
      }

pub after-append : {B : Type 0} (does : Step → B → B) (xs ys : Steps) (b : B) → after does (xs ++ ys) b ≡ after does ys (after does xs b)
unfolding after
after-append does [] ys b = refl
after-append does (x ∷ xs) ys b = after-append does xs ys (does x b)
