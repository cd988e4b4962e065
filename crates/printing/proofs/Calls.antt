-- The text of what the two calls answer and leave, and of the bytes that are read. Assumes nothing.
use Prim.Native.Nat.{ℕ, ◌+◌, ◌-◌, ◌≤◌, ◌<◌, min}
use native.Mathlib.Omega.{arith}
use mathlib.Core.Path.{◌≡◌, sym, ap, ◌∙◌, subst}
use mathlib.Core.Logic.{⊎_elim}
use mathlib.Core.Bool.{Bool, true, false}
use mathlib.Core.List.{List, [], ◌++◌}
use lib.ListN.{length, take, drop, drop_of_length-le}
use lib.Seq.{take_all, take-nil, take-take, take-add, drop_at, length-take-le}
use Rattle.logic.specs.Search.{flat_map}
use Rattle.logic.specs.Derivation.{lines_in}
use Rattle.logic.specs.Calls.{CallForm, Input, Outcome, verdict_call_of, derivation_call_of}
use Rattle.logic.specs.Demands.{Fits}
use Rattle.theory.proofs.Basics.Compare.{le_cases}
use Rattle.theory.proofs.Calls.CallLaws.{FormLaws}
use Rattle.call_limits.specs.Forms.{form_of}
use Rattle.prover.specs.Promise.{meaning, Does}
use Rattle.prover.specs.declared.Answer.{Answer}
use Rattle.prover.specs.declared.Answer.TheVariants as answer
use Rattle.theory.proofs.Calls.Demands.{demand2_of}
use Rattle.text.specs.Text.{ascii}
use Rattle.wording.specs.Words.{refusal_text, report_text, line_text}
use Rattle.printing.specs.HeapverdictText.{answer_text, first_line, derivation_text, verdict_text, unsat_text, text_of, text_by}
use Rattle.printing.proofs.Texts.{refusal_line}

module _ (f : CallForm) (order query : List ℕ) (room : ℕ) (bytes : List ℕ) (r : Answer) where
  abbrev given : Input
  given = record { order = order; query = query; room = room }

  -- the text is that of the answer and of the bytes that the call leaves
  verdict_told : Does (verdict_call_of f given) r bytes → room ≡ f.room → text_of f order query ≡ verdict_text (meaning r) bytes (unsat_text f order query)
  unfolding text_of
  verdict_told does full =
      ap (λ (k : ℕ). text (verdict_call_of f (record { order = order; query = query; room = k }))) (sym full)
      ∙ ap (λ (a : _). verdict_text a (verdict_call_of f given).lent (unsat_text f order query)) (sym does.answers)
      ∙ ap (λ (b : List ℕ). verdict_text (meaning r) b (unsat_text f order query)) (sym does.leaves)
    where
      text : Outcome → List ℕ
      text v = verdict_text v.answer v.lent (unsat_text f order query)

  derivation_told : Does (derivation_call_of f given) r bytes → room ≡ 64002 → unsat_text f order query ≡ derivation_text (meaning r) bytes
  unfolding unsat_text
  derivation_told does full =
      ap (λ (k : ℕ). text (derivation_call_of f (record { order = order; query = query; room = k }))) (sym full)
      ∙ ap (λ (a : _). derivation_text a (derivation_call_of f given).lent) (sym does.answers)
      ∙ ap (derivation_text (meaning r)) (sym does.leaves)
    where
      text : Outcome → List ℕ
      text d = derivation_text d.answer d.lent

  module _ (does : Does (verdict_call_of f given) r bytes) (full : room ≡ f.room) where
    pub sat_text_lem : r ≡ answer.Satisfiable → ascii "sat\n" ++ report_text bytes ≡ text_of f order query
    unfolding verdict_text first_line answer_text
    sat_text_lem e = sym (verdict_told does full ∙ ap (λ (a : Answer). verdict_text (meaning a) bytes (unsat_text f order query)) e)

    pub unsat_text_lem : r ≡ answer.Refuted → ascii "unsat\n" ++ unsat_text f order query ≡ text_of f order query
    unfolding verdict_text first_line answer_text
    unsat_text_lem e = sym (verdict_told does full ∙ ap (λ (a : Answer). verdict_text (meaning a) bytes (unsat_text f order query)) e)

    pub refused_text_lem : (k place : ℕ) → r ≡ answer.Refused k place → refusal_text k place ≡ text_of f order query
    unfolding verdict_text
    refused_text_lem k place e = refusal_line k place ∙ sym (verdict_told does full ∙ ap (λ (a : Answer). verdict_text (meaning a) bytes (unsat_text f order query)) e)

  module _ (does : Does (derivation_call_of f given) r bytes) (full : room ≡ 64002) where
    pub lines_text : r ≡ answer.Refuted → flat_map line_text (lines_in bytes) ≡ unsat_text f order query
    unfolding derivation_text
    lines_text e = sym (derivation_told does full ∙ ap (λ (a : Answer). derivation_text (meaning a) bytes) e)

    pub no_lines_text : (k place : ℕ) → r ≡ answer.Refused k place → refusal_text k place ≡ unsat_text f order query
    unfolding derivation_text
    no_lines_text k place e = refusal_line k place ∙ sym (derivation_told does full ∙ ap (λ (a : Answer). derivation_text (meaning a) bytes) e)

    pub no_text : r ≡ answer.Satisfiable → [] ≡ unsat_text f order query
    unfolding derivation_text
    no_text e = sym (derivation_told does full ∙ ap (λ (a : Answer). derivation_text (meaning a) bytes) e)

    -- the lines that are counted are there
    pub lines_fit : FormLaws f → r ≡ answer.Refuted → length bytes ≡ room → Fits (length bytes) (lines_in bytes)
    lines_fit laws e same =
        subst (λ (k : ℕ). Fits k (lines_in bytes)) (sym same)
        (subst (λ (b : List ℕ). Fits room (lines_in b)) (sym does.leaves) ((demand2_of f laws).derivation_counted given (sym does.answers ∙ ap meaning e)))

-- one link or three
pub some-links : (three : Bool) (links : ℕ) → links ≡ (form_of three).links → (0 < links) × (links ≤ 3)
some-links true links e = (omega (arith, e), omega (arith, e))
some-links false links e = (omega (arith, e), omega (arith, e))

-- the order list and the query among the bytes that are read
module _ (bytes : List ℕ) (cut end : ℕ) (c : cut ≡ min (length bytes) 8) (e : end ≡ min (length bytes) 1024) where
  pub order_read : take cut bytes ≡ take 8 (take 1024 bytes)
  order_read =
      ⊎_elim
      (λ (l : 8 ≤ length bytes). let k : cut ≡ 8 = omega arith in ap (λ (j : ℕ). take j bytes) k)
      (λ (l : length bytes < 8). take_all cut bytes (omega arith) ∙ sym (take_all 8 bytes (omega arith)))
      (le_cases 8 (length bytes))
      ∙ sym (take-take 8 1024 bytes (omega arith))

  pub query_read : take (end - cut) (drop cut bytes) ≡ drop 8 (take 1024 bytes)
  query_read = ⊎_elim long short (le_cases 8 (length bytes))
    where
      short : length bytes < 8 → take (end - cut) (drop cut bytes) ≡ drop 8 (take 1024 bytes)
      short l =
          ap (take (end - cut)) (drop_of_length-le bytes {i = cut} (omega arith))
          ∙ take-nil (end - cut)
          ∙ sym (drop_of_length-le bytes {i = 8} (omega arith))
          ∙ ap (drop 8) (sym (take_all 1024 bytes (omega arith)))

      long : 8 ≤ length bytes → take (end - cut) (drop cut bytes) ≡ drop 8 (take 1024 bytes)
      long l =
          let k : cut ≡ 8 = omega arith in
          ap (λ (j : ℕ). take (end - j) (drop j bytes)) k
          ∙ sym (drop_at (take 8 bytes) (take (end - 8) (drop 8 bytes)) 8 (length-take-le 8 bytes l))
          ∙ ap (drop 8) (sym (take-add 8 (end - 8) bytes) ∙ whole)
        where
          whole : take (8 + (end - 8)) bytes ≡ take 1024 bytes
          whole =
              ⊎_elim
              (λ (m : 1024 ≤ length bytes). let k : 8 + (end - 8) ≡ 1024 = omega arith in ap (λ (j : ℕ). take j bytes) k)
              (λ (m : length bytes < 1024). take_all (8 + (end - 8)) bytes (omega arith) ∙ sym (take_all 1024 bytes (omega arith)))
              (le_cases 1024 (length bytes))

  pub text-read : (f : CallForm) → text_of f (take cut bytes) (take (end - cut) (drop cut bytes)) ≡ text_by f bytes
  unfolding text_by
  text-read f = ap (λ (o : List ℕ). text_of f o (take (end - cut) (drop cut bytes))) order_read ∙ ap (text_of f (take 8 (take 1024 bytes))) query_read
