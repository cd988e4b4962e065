-- The texts as they are written, part by part. Assumes nothing.
use Prim.Native.Nat.{ℕ, zero, suc, ◌+◌, ◌-◌, ◌*◌, ◌≤◌, ◌<◌}
use native.Mathlib.Omega.{arith}
use native.Mathlib.Nat.{add-zero, sub-zero}
use mathlib.Core.Path.{◌≡◌, refl, sym, ap, ◌∙◌}
use mathlib.Core.List.{List, [], ◌++◌}
use lib.ListN.{length, get_or, drop}
use lib.Seq.{drop-drop, get_or-drop}
use Rattle.logic.specs.Search.{flat_map}
use Rattle.logic.specs.Facts.{Line, line}
use Rattle.logic.specs.Derivation.{lines_from, lines_in}
use Rattle.logic.specs.Calls.{refused}
use Rattle.prover.specs.Promise.{meaning}
use Rattle.prover.specs.declared.Answer.{Answer}
use Rattle.prover.specs.declared.Answer.TheVariants as answer
use Rattle.text.specs.Text.{ascii}
use Rattle.wording.specs.Words.{refused_text, refusal_text, line_text}
use Rattle.printing.specs.HeapverdictText.{answer_text, first_line}

-- A refusal's line
pub refusal_line : (k place : ℕ) → refusal_text k place ≡ first_line (refused k place)
unfolding first_line answer_text refusal_text
refusal_line k place = refl

-- Lines. Those of a derivation from line i on.
abbrev pub lines_left : ℕ → List ℕ → ℕ → List ℕ
lines_left count bytes i = flat_map line_text (lines_from (count - i) (drop (2 + 4 * i) bytes))

abbrev pub line_at : List ℕ → ℕ → Line
line_at bytes from = line (get_or bytes from 0) (get_or bytes (from + 1) 0) (get_or bytes (from + 2) 0) (get_or bytes (from + 3) 0)

line_first : (bytes : List ℕ) (from k : ℕ) → flat_map line_text (lines_from (suc k) (drop from bytes)) ≡ line_text (line_at bytes from) ++ flat_map line_text (lines_from k (drop (from + 4) bytes))
unfolding lines_from flat_map
line_first bytes from k =
    rw (get_or-drop from bytes 0 0, add-zero from, get_or-drop from bytes 1 0, get_or-drop from bytes 2 0, get_or-drop from bytes 3 0, drop-drop 4 from bytes)

lines_from-length : (k : ℕ) (bytes : List ℕ) → length (lines_from k bytes) ≡ k
unfolding lines_from
lines_from-length zero bytes = refl
lines_from-length (suc k) bytes = ap suc (lines_from-length k (drop 4 bytes))

pub lines-count : (bytes : List ℕ) → length (lines_in bytes) ≡ 256 * get_or bytes 0 0 + get_or bytes 1 0
unfolding lines_in
lines-count bytes = lines_from-length (256 * get_or bytes 0 0 + get_or bytes 1 0) (drop 2 bytes)

module _ (count : ℕ) (bytes : List ℕ) where
  pub lines_whole : count ≡ 256 * get_or bytes 0 0 + get_or bytes 1 0 → flat_map line_text (lines_in bytes) ≡ lines_left count bytes 0
  unfolding lines_in
  lines_whole e =
      ap (λ (k : ℕ). flat_map line_text (lines_from k (drop 2 bytes))) (sym e ∙ sym (sub-zero count))

  pub lines_next : (i from : ℕ) → from ≡ 2 + 4 * i → i < count → lines_left count bytes i ≡ line_text (line_at bytes from) ++ lines_left count bytes (i + 1)
  lines_next i from e h =
      let k : ℕ = count - (i + 1) in
      let more : count - i ≡ suc k = omega arith in
      let on : from + 4 ≡ 2 + 4 * (i + 1) = omega arith in
      ap (λ (j : ℕ). flat_map line_text (lines_from j (drop (2 + 4 * i) bytes))) more
      ∙ ap (λ (j : ℕ). flat_map line_text (lines_from (suc k) (drop j bytes))) (sym e)
      ∙ line_first bytes from k
      ∙ ap (λ (j : ℕ). line_text (line_at bytes from) ++ flat_map line_text (lines_from k (drop j bytes))) on

  pub lines_end : (i : ℕ) → count ≤ i → lines_left count bytes i ≡ []
  unfolding lines_from flat_map
  lines_end i h = let z : count - i ≡ 0 = omega arith in ap (λ (k : ℕ). flat_map line_text (lines_from k (drop (2 + 4 * i) bytes))) z

-- the words of an answer, case by case
module _ (a : Answer) where
  pub sat_words : a ≡ answer.Satisfiable → ascii "sat" ≡ answer_text (meaning a)
  unfolding answer_text
  sat_words e = sym (ap (λ (b : Answer). answer_text (meaning b)) e)

  pub unsat_words : a ≡ answer.Refuted → ascii "unsat" ≡ answer_text (meaning a)
  unfolding answer_text
  unsat_words e = sym (ap (λ (b : Answer). answer_text (meaning b)) e)

  pub refusal_words : (k place : ℕ) → a ≡ answer.Refused k place → refused_text k place ≡ answer_text (meaning a)
  unfolding answer_text
  refusal_words k place e = sym (ap (λ (b : Answer). answer_text (meaning b)) e)
