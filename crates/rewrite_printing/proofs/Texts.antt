-- The texts as they are written. Assumes nothing.
use Prim.Native.Nat.{ℕ, ◌≤◌, ◌<◌, min}
use native.Mathlib.Omega.{arith}
use mathlib.Core.Path.{◌≡◌, refl, sym, ap, ◌∙◌}
use mathlib.Core.Logic.{⊎_elim}
use mathlib.Core.List.{List}
use lib.ListN.{length, take}
use lib.Seq.{take_all}
use Rattle.theory.proofs.Basics.Compare.{le_cases}
use Rattle.encoding.specs.WritingCall.{Answer, Outcome}
use Rattle.wording.specs.Words.{refusal_text}
use Rattle.rewriting.specs.Call.{rewrite_call}
use Rattle.rewriter.specs.Promise.{meaning, Does}
use Rattle.std.specs.Prelude.{Result, Ok, Err}
use Rattle.refusals.specs.declared.Refusal.{Refusal}
use Rattle.refusals.specs.Numbers.{number_of}
use Rattle.hex_lines.specs.HexLines.{hex_line}
use Rattle.rewrite_printing.specs.RewriteText.{answer_text, outcome_text, text_of, rewritequery_text}

-- what is printed of an answer
pub written_text : (r : Result ℕ Refusal) (bytes : List ℕ) (n end : ℕ) → r ≡ Ok n → end ≡ min n (length bytes) → hex_line (take end bytes) ≡ answer_text (meaning r) bytes
unfolding answer_text
written_text r bytes n end e m =
    ap hex_line (⊎_elim
    (λ (k : length bytes ≤ n). take_all end bytes (omega arith) ∙ sym (take_all n bytes (omega arith)))
    (λ (k : n < length bytes). let z : end ≡ n = omega arith in ap (λ (j : ℕ). take j bytes) z)
    (le_cases (length bytes) n))
    ∙ ap (λ (x : Result ℕ Refusal). answer_text (meaning x) bytes) (sym e)

pub refused_text_lem : (r : Result ℕ Refusal) (bytes : List ℕ) (e : Refusal) → r ≡ Err e → refusal_text (number_of e.fault) e.place ≡ answer_text (meaning r) bytes
unfolding answer_text
refused_text_lem r bytes e h = ap (λ (x : Result ℕ Refusal). answer_text (meaning x) bytes) (sym h)

-- and of what a call answers and leaves
pub told : {o : Outcome} {r : Result ℕ Refusal} {bytes : List ℕ} → Does o r bytes → answer_text (meaning r) bytes ≡ outcome_text o
unfolding outcome_text
told {o} {r} {bytes} does = ap (λ (b : Answer). answer_text b bytes) does.answers ∙ ap (answer_text o.answer) does.leaves

pub rewritten_text : (query : List ℕ) (room : ℕ) {r : Result ℕ Refusal} {bytes : List ℕ} → Does (rewrite_call query room) r bytes → room ≡ 561 → answer_text (meaning r) bytes ≡ text_of query
unfolding text_of
rewritten_text query room does full = told does ∙ ap (λ (k : ℕ). outcome_text (rewrite_call query k)) full

-- the bytes that are read
pub text_cut : (bytes : List ℕ) → text_of (take 1024 bytes) ≡ rewritequery_text bytes
unfolding rewritequery_text
text_cut bytes = refl

pub text_whole : (bytes : List ℕ) → length bytes ≤ 1024 → text_of bytes ≡ rewritequery_text bytes
unfolding rewritequery_text
text_whole bytes h = ap text_of (sym (take_all 1024 bytes h))
