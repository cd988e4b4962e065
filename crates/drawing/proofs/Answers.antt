-- What the call answers and leaves, case by case, and that there are no other cases. Assumes nothing.
use Prim.Native.Nat.{ℕ, ◌-◌, ◌≤◌, ◌<◌}
use native.Mathlib.Omega.{arith}
use borrow.Author.Tests.{lt-ltb, le-ltb, ltb-true, ltb-false}
use mathlib.Core.Path.{◌≡◌, refl, sym, ap, ◌∙◌}
use mathlib.Core.Logic.{◌↔◌, ◌⊎◌, inl, inr, ⊎_elim}
use mathlib.Core.Bool.{true, false}
use mathlib.Core.List.{List, ◌++◌}
use lib.ListN.{length, replicate}
use lib.Dec.{ltb}
use Rattle.logic.specs.Shown.{well_formed}
use Rattle.logic.specs.Calls.{padded}
use Rattle.theory.proofs.Basics.Search.{bool_cases}
use Rattle.theory.proofs.Basics.Compare.{cond-true, cond-false}
use Rattle.drawing.specs.Text.{text}
use Rattle.drawing.specs.Call.{Answer, Outcome, written, refused, refusal, drawn, dot_call}
use Rattle.drawing.specs.Claims.{Answers}

-- a text, by the room that there is
drawn-short : (room : ℕ) (t : List ℕ) → room < length t → drawn room t ≡ record { answer = refused 14 0; lent = replicate room 0 }
unfolding drawn refusal
drawn-short room t l = cond-true _ _ (lt-ltb room (length t) l)

drawn_whole : (room : ℕ) (t : List ℕ) → length t ≤ room → drawn room t ≡ record { answer = written (length t); lent = padded room t }
unfolding drawn
drawn_whole room t l = cond-false _ _ (le-ltb room (length t) l)

module _ (bytes : List ℕ) (room : ℕ) where
  pub call_unformed : well_formed 1 bytes ≡ false → dot_call bytes room ≡ record { answer = refused 13 0; lent = replicate room 0 }
  unfolding dot_call refusal
  call_unformed h = cond-false _ _ h

  pub call_short : well_formed 1 bytes ≡ true → room < length (text bytes) → dot_call bytes room ≡ record { answer = refused 14 0; lent = replicate room 0 }
  unfolding dot_call
  call_short h l = cond-true _ _ h ∙ drawn-short room (text bytes) l

  pub call_written : well_formed 1 bytes ≡ true → length (text bytes) ≤ room → dot_call bytes room ≡ record { answer = written (length (text bytes)); lent = padded room (text bytes) }
  unfolding dot_call
  call_written h l = cond-true _ _ h ∙ drawn_whole room (text bytes) l

-- the answers are not one another's, and a refusal has one number and one place
refused_same : {k place j at : ℕ} → refused k place ≡ refused j at → (k ≡ j) × (place ≡ at)
refused_same h = (cc, cc)

written_same : {k n : ℕ} → written k ≡ written n → k ≡ n
written_same h = cc

written_refused : {n k place : ℕ} → written n ≡ refused k place → ⊥
written_refused h = let z : ◌≡◌ {A = ℕ} 0 1 = cc in omega arith

module _ (bytes : List ℕ) (room : ℕ) where
  data Case : Type 0 where
    unformed : well_formed 1 bytes ≡ false → Case
    short : well_formed 1 bytes ≡ true → room < length (text bytes) → Case
    fits : well_formed 1 bytes ≡ true → length (text bytes) ≤ room → Case

  case : Case
  case = ⊎_elim (λ t. ⊎_elim (λ l. short t (ltb-true _ _ l)) (λ l. fits t (ltb-false _ _ l)) (bool_cases (ltb room (length (text bytes))))) unformed (bool_cases (well_formed 1 bytes))

  abbrev answer : Answer
  answer = (dot_call bytes room).answer

  -- what is answered in each case
  unformed-answer : well_formed 1 bytes ≡ false → answer ≡ refused 13 0
  unformed-answer f = ap (λ (o : Outcome). o.answer) (call_unformed bytes room f)

  short-answer : well_formed 1 bytes ≡ true → room < length (text bytes) → answer ≡ refused 14 0
  short-answer t l = ap (λ (o : Outcome). o.answer) (call_short bytes room t l)

  written-answer : well_formed 1 bytes ≡ true → length (text bytes) ≤ room → answer ≡ written (length (text bytes))
  written-answer t l = ap (λ (o : Outcome). o.answer) (call_written bytes room t l)

  unformed_exactly : (place : ℕ) → (answer ≡ refused 13 place) ↔ ((place ≡ 0) × (well_formed 1 bytes ≡ false))
  unformed_exactly place = (λ h. there h case, λ d. unformed-answer d.1 ∙ ap (refused 13) (sym d.0))
    where
      there : answer ≡ refused 13 place → Case → (place ≡ 0) × (well_formed 1 bytes ≡ false)
      there h (unformed f) = ((refused_same (sym h ∙ unformed-answer f)).1, f)
      there h (short t l) = absurd (omega (arith, (refused_same (sym h ∙ short-answer t l)).0))
      there h (fits t l) = absurd (written_refused (sym (written-answer t l) ∙ h))

  short_exactly : (place : ℕ) → (answer ≡ refused 14 place) ↔ ((place ≡ 0) × (well_formed 1 bytes ≡ true) × (room < length (text bytes)))
  short_exactly place = (λ h. there h case, λ d. short-answer d.1 d.2 ∙ ap (refused 14) (sym d.0))
    where
      there : answer ≡ refused 14 place → Case → (place ≡ 0) × (well_formed 1 bytes ≡ true) × (room < length (text bytes))
      there h (unformed f) = absurd (omega (arith, (refused_same (sym h ∙ unformed-answer f)).0))
      there h (short t l) = ((refused_same (sym h ∙ short-answer t l)).1, t, l)
      there h (fits t l) = absurd (written_refused (sym (written-answer t l) ∙ h))

  refusal_numbered : (k place : ℕ) → answer ≡ refused k place → (k ≡ 13) ⊎ (k ≡ 14)
  refusal_numbered k place h = there case
    where
      there : Case → (k ≡ 13) ⊎ (k ≡ 14)
      there (unformed f) = inl (refused_same (sym h ∙ unformed-answer f)).0
      there (short t l) = inr (refused_same (sym h ∙ short-answer t l)).0
      there (fits t l) = absurd (written_refused (sym (written-answer t l) ∙ h))

  written_exactly : (k : ℕ) → (answer ≡ written k) ↔ ((k ≡ length (text bytes)) × (well_formed 1 bytes ≡ true) × (length (text bytes) ≤ room))
  written_exactly k = (λ h. there h case, λ d. written-answer d.1 d.2 ∙ ap written (sym d.0))
    where
      there : answer ≡ written k → Case → (k ≡ length (text bytes)) × (well_formed 1 bytes ≡ true) × (length (text bytes) ≤ room)
      there h (unformed f) = absurd (written_refused (sym h ∙ unformed-answer f))
      there h (short t l) = absurd (written_refused (sym h ∙ short-answer t l))
      there h (fits t l) = (written_same (sym h ∙ written-answer t l), t, l)

  refusal_blank : (k place : ℕ) → answer ≡ refused k place → (dot_call bytes room).lent ≡ replicate room 0
  refusal_blank k place h = there case
    where
      there : Case → (dot_call bytes room).lent ≡ replicate room 0
      there (unformed f) = ap (λ (o : Outcome). o.lent) (call_unformed bytes room f)
      there (short t l) = ap (λ (o : Outcome). o.lent) (call_short bytes room t l)
      there (fits t l) = absurd (written_refused (sym (written-answer t l) ∙ h))

  zeros_follow : (k : ℕ) → answer ≡ written k → (dot_call bytes room).lent ≡ text bytes ++ replicate (room - k) 0
  unfolding padded
  zeros_follow k h =
      let (e, t, l) = (written_exactly k).0 h in
      ap (λ (o : Outcome). o.lent) (call_written bytes room t l) ∙ ap (λ (n : ℕ). text bytes ++ replicate (room - n) 0) (sym e)

  pub answers : Answers bytes room
  answers =
      record {
        unformed_exactly = unformed_exactly;
        short_exactly = short_exactly;
        refusal_numbered = refusal_numbered;
        written_exactly = written_exactly;
        refusal_blank = refusal_blank;
        zeros_follow = zeros_follow;
      }
