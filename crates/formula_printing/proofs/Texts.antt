-- The text of what the call answers and leaves, and of the bytes that are read. Assumes nothing.
use Prim.Native.Nat.{ℕ, ◌+◌, ◌-◌, ◌*◌, ◌≤◌, ◌<◌, min}
use native.Mathlib.Omega.{arith}
use mathlib.Core.Path.{◌≡◌, refl, sym, ap, ◌∙◌, subst}
use mathlib.Core.Logic.{⊎_elim}
use mathlib.Core.Bool.{true}
use mathlib.Core.List.{List, ◌++◌}
use lib.ListN.{length, get_or, take, drop, length-drop, drop_of_length-le}
use lib.Seq.{take_all, drop-drop}
use Rattle.logic.specs.Shown.{well_formed}
use Rattle.theory.proofs.Basics.Compare.{le_cases}
use Rattle.text.specs.Text.{ascii, decimal}
use Rattle.wording.specs.Words.{refusal_text, report_text}
use Rattle.formula.specs.Grammar.{Formula}
use Rattle.formula.specs.Call.{Input, Outcome, formula_call}
use Rattle.formula.specs.Call as call
use Rattle.formula.specs.ReadingClaims.{Taken}
use Rattle.formula.proofs.RefusalClaims.{refusal_claims}
use Rattle.formula.proofs.AnswerClaims.{formula_claims}
use Rattle.formula_call.specs.FormulaPromise.{formula_input, formula_meaning, DoesFormula}
use Rattle.formula_call.specs.declared.FormulaAnswer.{FormulaAnswer}
use Rattle.formula_call.specs.declared.FormulaAnswer.TheVariants as answer
use Rattle.formula_printing.specs.FormulaverdictText.{sat_text, answer_text, text_of, query_length, query_in, text_in, parts_text, formulaverdict_text}

pub sat_words : (n : ℕ) (bytes : List ℕ) → ascii "sat " ++ (decimal n ++ (ascii "\n" ++ report_text bytes)) ≡ sat_text n bytes
unfolding sat_text
sat_words n bytes = refl

module _ (order query text before bytes : List ℕ) (r : FormulaAnswer) (does : DoesFormula (formula_call (formula_input order query text before)) r bytes) (full : length before ≡ 53) where
  abbrev given : Input
  given = formula_input order query text before

  -- the text is that of the answer and of the bytes that the call leaves
  told : text_of order query text ≡ answer_text (formula_meaning r) bytes
  unfolding text_of
  told =
      ap (λ (k : ℕ). shown (formula_call (record { order = order; query = query; text = text; room = k }))) (sym full)
      ∙ ap (λ (a : call.Answer). answer_text a (formula_call given).lent) (sym does.answers)
      ∙ ap (answer_text (formula_meaning r)) (sym does.leaves)
    where
      shown : Outcome → List ℕ
      shown o = answer_text o.answer o.lent

  pub sat_text_lem : (n : ℕ) → r ≡ answer.Conjunction n → sat_text n bytes ≡ text_of order query text
  unfolding answer_text
  sat_text_lem n e = sym (told ∙ ap (λ (a : FormulaAnswer). answer_text (formula_meaning a) bytes) e)

  pub unsat_text_lem : r ≡ answer.Refuted → ascii "unsat\n" ≡ text_of order query text
  unfolding answer_text
  unsat_text_lem e = sym (told ∙ ap (λ (a : FormulaAnswer). answer_text (formula_meaning a) bytes) e)

  pub refused_text_lem : (k place : ℕ) → r ≡ answer.Refused k place → refusal_text k place ≡ text_of order query text
  unfolding answer_text
  refused_text_lem k place e = sym (told ∙ ap (λ (a : FormulaAnswer). answer_text (formula_meaning a) bytes) e)

  module _ (n : ℕ) (e : r ≡ answer.Conjunction n) where
    answered : (formula_call given).answer ≡ call.conjunction n
    answered = sym does.answers ∙ ap formula_meaning e

    taken : (f : Formula) × Taken given f
    taken = (refusal_claims given).taken_exactly.0 (λ k p h. apart (sym answered ∙ h))
      where
        numbered : call.Answer → Type 0
        numbered (call.conjunction j) = Unit {0}
        numbered call.refuted = ⊥
        numbered (call.refused k p) = ⊥

        apart : {k p : ℕ} → Path call.Answer (call.conjunction n) (call.refused k p) → ⊥
        apart h = subst numbered h tt

    -- the report behind the number is well formed
    pub report_formed : well_formed 1 bytes ≡ true
    report_formed =
        ap (well_formed 1) does.leaves
        ∙ ((formula_claims given).answers taken.0 taken.1).report_formed n answered

-- the parts of what is read
module _ (bytes : List ℕ) (size begin end : ℕ) (s : size ≡ query_length bytes) (b : begin ≡ min (length bytes) 10) (e : end ≡ min (length bytes) (10 + size)) where
  order_read : (cut : ℕ) → cut ≡ min (length bytes) 8 → take cut bytes ≡ take 8 bytes
  order_read cut c =
      ⊎_elim
      (λ (l : 8 ≤ length bytes). let k : cut ≡ 8 = omega arith in ap (λ (j : ℕ). take j bytes) k)
      (λ (l : length bytes < 8). take_all cut bytes (omega arith) ∙ sym (take_all 8 bytes (omega arith)))
      (le_cases 8 (length bytes))

  begins : drop begin bytes ≡ drop 10 bytes
  begins =
      ⊎_elim
      (λ (l : 10 ≤ length bytes). let k : begin ≡ 10 = omega arith in ap (λ (j : ℕ). drop j bytes) k)
      (λ (l : length bytes < 10). drop_of_length-le bytes {i = begin} (omega arith) ∙ sym (drop_of_length-le bytes {i = 10} (omega arith)))
      (le_cases 10 (length bytes))

  query_read : take (end - begin) (drop begin bytes) ≡ query_in bytes
  unfolding query_in
  query_read = ap (take (end - begin)) begins ∙ fits ∙ ap (λ (k : ℕ). take k (drop 10 bytes)) s
    where
      left : length (drop 10 bytes) ≡ length bytes - 10
      left = length-drop 10 bytes

      fits : take (end - begin) (drop 10 bytes) ≡ take size (drop 10 bytes)
      fits =
          ⊎_elim
          (λ (l : 10 + size ≤ length bytes). let k : end - begin ≡ size = omega arith in ap (λ (j : ℕ). take j (drop 10 bytes)) k)
          (λ (l : length bytes < 10 + size). take_all (end - begin) (drop 10 bytes) (omega (arith, left)) ∙ sym (take_all size (drop 10 bytes) (omega (arith, left))))
          (le_cases (10 + size) (length bytes))

  text-read : drop end bytes ≡ text_in bytes
  unfolding text_in
  text-read = ends ∙ sym (drop-drop size 10 bytes) ∙ ap (λ (k : ℕ). drop k (drop 10 bytes)) s
    where
      ends : drop end bytes ≡ drop (10 + size) bytes
      ends =
          ⊎_elim
          (λ (l : 10 + size ≤ length bytes). let k : end ≡ 10 + size = omega arith in ap (λ (j : ℕ). drop j bytes) k)
          (λ (l : length bytes < 10 + size). drop_of_length-le bytes {i = end} (omega arith) ∙ sym (drop_of_length-le bytes {i = 10 + size} (omega arith)))
          (le_cases (10 + size) (length bytes))

  behind : take (length bytes - end) (drop end bytes) ≡ text_in bytes
  behind = take_all (length bytes - end) (drop end bytes) (omega (arith, length-drop end bytes)) ∙ text-read

  pub parts_read : (cut : ℕ) → cut ≡ min (length bytes) 8 → text_of (take cut bytes) (take (end - begin) (drop begin bytes)) (take (length bytes - end) (drop end bytes)) ≡ parts_text bytes
  unfolding parts_text
  parts_read cut c =
      ap (λ (o : List ℕ). text_of o (take (end - begin) (drop begin bytes)) (take (length bytes - end) (drop end bytes))) (order_read cut c)
      ∙ ap (λ (q : List ℕ). text_of (take 8 bytes) q (take (length bytes - end) (drop end bytes))) query_read
      ∙ ap (text_of (take 8 bytes) (query_in bytes)) behind

pub length_read : (bytes : List ℕ) (size a b : ℕ) → size ≡ 256 * a + b → a ≡ get_or bytes 8 0 → b ≡ get_or bytes 9 0 → size ≡ query_length bytes
unfolding query_length
length_read bytes size a b e ea eb = e ∙ ap (λ (k : ℕ). 256 * k + b) ea ∙ ap (λ (k : ℕ). 256 * get_or bytes 8 0 + k) eb

pub whole-read : (bytes : List ℕ) (end : ℕ) → end ≡ min (length bytes) 2048 → parts_text (take end bytes) ≡ formulaverdict_text bytes
unfolding formulaverdict_text
whole-read bytes end e =
    ap parts_text
    (⊎_elim
    (λ (l : 2048 ≤ length bytes). let k : end ≡ 2048 = omega arith in ap (λ (j : ℕ). take j bytes) k)
    (λ (l : length bytes < 2048). take_all end bytes (omega arith) ∙ sym (take_all 2048 bytes (omega arith)))
    (le_cases 2048 (length bytes)))
