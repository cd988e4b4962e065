-- What is claimed of the formula call's answer, on every input. Assumes nothing.
use Prim.Native.Nat.{ℕ, ◌≤◌}
use native.Mathlib.Omega.{arith}
use mathlib.Core.Path.{◌≡◌, refl, sym, ap, ◌∙◌, subst}
use mathlib.Core.List.{List}
use lib.ListN.{length, replicate, length-replicate}
use Rattle.logic.specs.Query.{Query, decode}
use Rattle.theory.proofs.Calls.Demands.{demand1}
use Rattle.encoding.proofs.Decoded.{at-within}
use Rattle.formula.specs.Grammar.{Formula, disjunction, Reads}
use Rattle.formula.specs.Expansion.{Conjunction, expand}
use Rattle.formula.specs.Call.{Input, Answer, refused, refuted, conjunction, query_of, verdict_on, formula_call}
use Rattle.formula.specs.ReadingClaims.{Taken}
use Rattle.formula.specs.AnswerClaims.{SatisfiableFormula, FirstSatisfiable, AnswerClaims, FormulaClaims, OneAnswer}
use Rattle.formula.proofs.Complete as complete
use Rattle.formula.proofs.RefusalClaims.{refusal_claims}
use Rattle.formula.proofs.Conjunctions.{conjunction_claims}
use Rattle.formula.proofs.Answers.{never_refused, answer_claims}

refused_conjunction : {k place n : ℕ} → refused k place ≡ conjunction n → ⊥
refused_conjunction e = let z : ◌≡◌ {A = ℕ} 0 1 = cc in omega arith

refused_refuted : {k place : ℕ} → refused k place ≡ refuted → ⊥
refused_refuted e = let z : ◌≡◌ {A = ℕ} 0 1 = cc in omega arith

module _ (i : Input) where
  answers : (f : Formula) → Taken i f → AnswerClaims i f (formula_call i)
  answers f t = subst (AnswerClaims i f) (sym ((refusal_claims i).taken_answer f t)) (answer_claims i t.passed f t.accepted.all_present)

  -- an answer that is no refusal is that of a text that is taken
  taken : (a : Answer) → (formula_call i).answer ≡ a → ((k place : ℕ) → a ≡ refused k place → ⊥) → (f : Formula) × Taken i f
  taken a e n = (refusal_claims i).taken_exactly.0 (λ k place h. n k place (sym e ∙ h))

  numbered : (k : ℕ) → (formula_call i).answer ≡ conjunction k → (1 ≤ k) × (k ≤ 64)
  numbered k h =
      let (f, t) = taken (conjunction k) h (λ j place e. refused_conjunction (sym e)) in
      let s = ((answers f t).first_exactly k).0 h in
      let r = at-within (expand f) k s.first s.numbered in
      (r.0, omega (arith, r.1, t.few))

  zeros : (formula_call i).lent ≡ replicate i.room 0 → length (formula_call i).lent ≡ i.room
  zeros e = ap length e ∙ length-replicate {A = ℕ} i.room 0

  lent_whole : length (formula_call i).lent ≡ i.room
  lent_whole = by (formula_call i).answer refl
    where
      by : (a : Answer) → (formula_call i).answer ≡ a → length (formula_call i).lent ≡ i.room
      by (refused k place) e = zeros ((refusal_claims i).refusal_blank k place e)
      by refuted e = let (f, t) = taken refuted e (λ j place h. refused_refuted (sym h)) in zeros ((answers f t).refuted_blank e)
      by (conjunction k) e =
          let (f, t) = taken (conjunction k) e (λ j place h. refused_conjunction (sym h)) in
          let s = ((answers f t).first_exactly k).0 e in
          ap length ((answers f t).report_is k s.first e s.numbered) ∙ whole s.first
        where
          whole : (c : Conjunction) → length (verdict_on i c).lent ≡ i.room
          whole c = unfold verdict_on in demand1.verdict_refusals.lent_whole (record { order = i.order; query = query_of i c; room = i.room })

  pub formula_claims : FormulaClaims i
  formula_claims =
      record {
        conjunctions = λ f t. conjunction_claims (decode i.query) f t.accepted.all_present;
        answers = answers;
        answer_numbered = numbered;
        conjunction_decided = λ f t. never_refused i t.passed;
        lent_whole = lent_whole;
      }

-- what is answered depends on the query and the text's formula alone
pub one_answer : OneAnswer
one_answer i j f g same_query same_text s t = by (formula_call i).answer refl
  where
    formulas : f ≡ g
    formulas = complete.one_formula j.text f g (subst (λ (x : List ℕ). Reads disjunction x f) same_text s.accepted.reads) t.accepted.reads

    to : (P : Query → Formula → Type 0) → P (decode i.query) f → P (decode j.query) g
    to P p = subst (P (decode j.query)) formulas (subst (λ (x : List ℕ). P (decode x) f) same_query p)

    by : (a : Answer) → (formula_call i).answer ≡ a → (formula_call i).answer ≡ (formula_call j).answer
    by (conjunction k) e =
        e
        ∙ sym (((answers j g t).first_exactly k).1 (to (λ q x. FirstSatisfiable q x k) (((answers i f s).first_exactly k).0 e)))
    by refuted e = e ∙ sym ((answers j g t).refuted_exactly.1 (to (λ q x. SatisfiableFormula q x → ⊥) ((answers i f s).refuted_exactly.0 e)))
    by (refused k place) e = absurd ((refusal_claims i).taken_exactly.1 (f, s) k place e)
