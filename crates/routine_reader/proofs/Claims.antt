-- The claims of the code's answers, from the theorems about LL(1) grammars.
use Prim.Native.Nat.{ℕ, zero, suc, ◌-◌, ◌≤◌, ◌<◌}
use native.Mathlib.Omega.{arith}
use mathlib.Core.Path.{◌≡◌, refl, sym, ap, ◌∙◌}
use mathlib.Core.Logic.{⊎_elim}
use mathlib.Core.Bool.{true}
use mathlib.Core.List.{List, [], ◌∷◌}
use lib.ListN.{length, drop}
use lib.Dec.{eqb, ltb}
use borrow.Author.Tests.{lt-ltb, eqb-false, ltb-true, ltb-false}
use Rattle.logic.specs.Search.{all, select}
use Rattle.theory.proofs.Basics.Search.{bool_cases, true-false, and_intro}
use Rattle.grammar_theory.specs.Grammar.{Steps}
use Rattle.grammar_theory.specs.Machine.{accepted, after}
use Rattle.grammar_theory.specs.LL1.{parse}
use Rattle.grammar_theory.specs.Claims.{plain, ended}
use Rattle.routine_tokens.specs.declared.Token.{Token}
use Rattle.routine_tokens.specs.Tokens.{token_from, tokens_in, tokens}
use Rattle.routine_text.specs.Grammar.{grammar, predictions, facts}
use Rattle.routine_text.specs.Reading.{kinds_of}
use Rattle.routine_text.specs.Claims.{kinds}
use Rattle.routine_text.proofs.Claims.{correct}
use Rattle.routine_reader.specs.Answers.{nothing, recognised}
use Rattle.routine_reader.specs.Claims.{RecogniserClaims}
use Rattle.routine_reader.proofs.Coming.{from_sound, rest_last, rest_more, coming}
use Rattle.routine_reader.proofs.Moves.{kinds_more}

-- the kinds of a list's last token
last_few : (t : Token) (room : ℕ) → (1 ≤ t.kind → 0 < room) → length (kinds_of (t ∷ [])) ≤ room
unfolding kinds_of select
last_few t room h =
    ⊎_elim
    (λ (e : eqb t.kind 0 ≡ true). rw e (omega arith))
    (λ e. rw e (let n : t.kind ≡ 0 → ⊥ = eqb-false _ _ e in let l : 0 < room = h (omega (arith, n)) in omega arith))
    (bool_cases (eqb t.kind 0))

-- there are no more tokens before the end than bytes
few : (text : List ℕ) (k at : ℕ) → length (kinds_of (tokens_in k at (drop at text))) ≤ length text - at
few text zero at = unfold tokens_in kinds_of select in omega arith
few text (suc k) at =
    ⊎_elim
    (λ (h : ltb (token_from text at).kind 2 ≡ true).
    let e = coming text at k ∙ ap (λ (ts : List Token). token_from text at ∷ ts) (rest_last text at k (ltb-true _ 2 h)) in
    let l = last_few (token_from text at) (length text - at) (from_sound text at).inside in
    omega (arith, ap (λ (ts : List Token). length (kinds_of ts)) e, l))
    (λ h.
    let t : Token = token_from text at in
    let m : 2 ≤ t.kind = ltb-false _ 2 h in
    let e = coming text at k ∙ ap (λ (ts : List Token). t ∷ ts) (rest_more text at k m) in
    let f = ap length (ap kinds_of e ∙ kinds_more t _ m) in
    let r = few text k t.end in
    omega (arith, f, r, (from_sound text at).behind m, (from_sound text at).inside (omega (arith, m))))
    (bool_cases (ltb (token_from text at).kind 2))

kinds_few : (text : List ℕ) → length (kinds text) ≤ length text
unfolding tokens
kinds_few text = omega (arith, few text (suc (length text)) 0)

-- the kinds before the end are none of the end
plain-kinds : (ts : List Token) → plain (kinds_of ts) ≡ true
unfolding plain kinds_of select all
plain-kinds [] = refl
plain-kinds (t ∷ ts) =
    ⊎_elim
    (λ (e : eqb t.kind 0 ≡ true). rw e (plain-kinds ts))
    (λ e. rw e (and_intro (lt-ltb 0 t.kind (let n : t.kind ≡ 0 → ⊥ = eqb-false _ _ e in omega (arith, n))) (plain-kinds ts)))
    (bool_cases (eqb t.kind 0))

nothing_made : (steps : Steps) → after nothing steps 0 ≡ 0
unfolding after nothing
nothing_made [] = refl
nothing_made (s ∷ steps) = nothing_made steps

parsed : (text : List ℕ) → recognised text ≡ parse nothing grammar predictions facts 0 (kinds text) 0
unfolding recognised
parsed text = correct.parse_more nothing (kinds text) 0 (length text) (kinds_few text)

pub recogniser_claims : RecogniserClaims
recogniser_claims =
    record {
      recognised_ended = λ text h.
          true-false (correct.parse_ended nothing (kinds text) 0) (ap ended (sym (parsed text) ∙ h) ∙ unfold ended in refl);
      accepted_text = λ text h.
          let r = correct.accepted_text nothing (kinds text) 0 0 (plain-kinds (tokens text)) (sym (parsed text) ∙ h) in
          (r.0, r.1);
      text_accepted = λ text steps d. parsed text ∙ correct.text_accepted nothing (kinds text) steps 0 d ∙ ap accepted (nothing_made steps);
      stuck_fault = λ text left h. correct.stuck_fault nothing (kinds text) left 0 0 (plain-kinds (tokens text)) (sym (parsed text) ∙ h);
    }
