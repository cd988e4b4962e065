-- The text of what the call answers and leaves, and of the bytes that are read. Assumes nothing.
use Prim.Native.Nat.{ℕ, ◌≤◌}
use mathlib.Core.Path.{◌≡◌, refl, sym, ap, ◌∙◌, subst}
use mathlib.Core.Bool.{true}
use mathlib.Core.List.{List, ◌++◌}
use lib.ListN.{length, take}
use lib.Seq.{take_all}
use Rattle.logic.specs.Calls.{Outcome}
use Rattle.logic.specs.Calls as calls
use Rattle.logic.specs.Shown.{well_formed}
use Rattle.text.specs.Text.{ascii}
use Rattle.wording.specs.Words.{report_text, refusal_text}
use Rattle.between_search.specs.Calls.{between_call}
use Rattle.between_search.proofs.Promised.{between_promised}
use Rattle.std.specs.Prelude.{Result, Ok, Err}
use Rattle.refusals.specs.declared.Refusal.{Refusal}
use Rattle.refusals.specs.Numbers.{number_of}
use Rattle.between_call.specs.declared.BetweenAnswer.{BetweenAnswer}
use Rattle.between_call.specs.declared.BetweenAnswer.TheVariants as answer
use Rattle.between_call.specs.Promise.{meaning, Does}
use Rattle.between_printing.specs.BetweenverdictText.{outcome_text, text_of, betweenverdict_text}

module _ (query : List ℕ) (room : ℕ) (bytes : List ℕ) (r : Result BetweenAnswer Refusal) (does : Does (between_call query room) r bytes) (full : room ≡ 53) where
  told : text_of query ≡ outcome_text (meaning r) bytes
  unfolding text_of
  told =
      ap (λ (k : ℕ). text (between_call query k)) (sym full)
      ∙ ap (λ (a : calls.Answer). outcome_text a (between_call query room).lent) (sym does.answers)
      ∙ ap (outcome_text (meaning r)) (sym does.leaves)
    where
      text : Outcome → List ℕ
      text o = outcome_text o.answer o.lent

  pub heap_text : r ≡ Ok answer.Heap → ascii "sat\n" ++ report_text bytes ≡ text_of query
  unfolding outcome_text
  heap_text e = sym (told ∙ ap (λ (a : Result BetweenAnswer Refusal). outcome_text (meaning a) bytes) e)

  pub none-text : r ≡ Ok answer.Nothing → ascii "unsat\n" ≡ text_of query
  unfolding outcome_text
  none-text e = sym (told ∙ ap (λ (a : Result BetweenAnswer Refusal). outcome_text (meaning a) bytes) e)

  pub refused_text_lem : (x : Refusal) → r ≡ Err x → refusal_text (number_of x.fault) x.place ≡ text_of query
  unfolding outcome_text
  refused_text_lem x e = sym (told ∙ ap (λ (a : Result BetweenAnswer Refusal). outcome_text (meaning a) bytes) e)

  pub heap_formed : r ≡ Ok answer.Heap → well_formed 1 bytes ≡ true
  heap_formed e = subst (λ (b : List ℕ). well_formed 1 b ≡ true) (sym does.leaves) (between_promised.report_formed query room (sym does.answers ∙ ap meaning e))

pub all_read : (bytes : List ℕ) → length bytes ≤ 1024 → text_of bytes ≡ betweenverdict_text bytes
unfolding betweenverdict_text
all_read bytes h = ap text_of (sym (take_all 1024 bytes h))

pub cut_read : (bytes : List ℕ) → text_of (take 1024 bytes) ≡ betweenverdict_text bytes
unfolding betweenverdict_text
cut_read bytes = refl
