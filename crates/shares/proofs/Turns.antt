-- The lines that are written, and a turn from its parts. Assumes nothing.
use Prim.Native.Nat.{ℕ, ◌+◌, ◌*◌, ◌/◌, ◌%◌, ◌≤◌, ◌<◌}
use native.Mathlib.Omega.{arith}
use mathlib.Core.Path.{◌≡◌, refl, sym, ap, subst, ◌∙◌}
use mathlib.Core.Bool.{Bool, true, false}
use mathlib.Core.List.{List, [], ◌∷◌, ◌++◌}
use lib.ListN.{length, get_or}
use Rattle.logic.specs.Facts.{Line}
use Rattle.logic.specs.Derivation.{lines_in}
use Rattle.logic.specs.Calls.{verdict_call, derivation_call}
use Rattle.logic.specs.Calls as calls
use Rattle.prover.specs.Promise.{meaning, input_of, Does}
use Rattle.prover.specs.declared.Answer.{Answer}
use Rattle.prover.specs.declared.Answer.TheVariants as answer
use Rattle.text.specs.Text.{ascii, decimal, hex_byte, Writes}
use Rattle.text.proofs.Writing.{writes_none}
use Rattle.printing.specs.HeapverdictText.{answer_text}
use Rattle.printing.proofs.Texts.{lines-count}
use Rattle.fnv.specs.Mark.{mark_of}
use Rattle.tally.specs.Counting.{tallied}
use Rattle.sharing.specs.Output.{Turn, hex_word, answer_of, written_lines, query_line, is_bad, turn_of}
use Rattle.sharing.proofs.Lines.{sat_none, lines_left}
use Rattle.shares.specs.Taking.{Finishes, Prints, Takes}

-- the answer of the verdict call
pub answered : (order query before bytes : List ℕ) (r : Answer) → length before ≡ 53 → Does (verdict_call (input_of order query before)) r bytes → meaning r ≡ answer_of order query
unfolding answer_of
answered order query before bytes r e does = does.answers ∙ ap (λ (n : ℕ). (verdict_call (record { order = order; query = query; room = n })).answer) e

-- the lines that are counted: those of a derivation that was asked for, or none
module _ (order query : List ℕ) where
  pub sat_lines : (r : Answer) → meaning r ≡ answer_of order query → r ≡ answer.Satisfiable → lines_in (0 ∷ 0 ∷ []) ≡ written_lines order query
  sat_lines r e s = sat_none order query (sym e ∙ ap meaning s)

  pub derived_lines : (before bytes : List ℕ) (r : Answer) → length before ≡ 64002 → Does (derivation_call (input_of order query before)) r bytes → lines_in bytes ≡ written_lines order query
  derived_lines before bytes r e does =
      ap lines_in (does.leaves ∙ ap (λ (n : ℕ). (derivation_call (record { order = order; query = query; room = n })).lent) e) ∙ lines_left order query

-- a line from its words
pub line_words : (order query : List ℕ) (m : ℕ) (a : calls.Answer) → m ≡ mark_of query → a ≡ answer_of order query
    → hex_word m ++ (ascii " " ++ (answer_text a ++ (ascii " " ++ (decimal (length (written_lines order query)) ++ ascii "\n")))) ≡ query_line order query
unfolding query_line
line_words order query m a e f = rw (e, f)

pub word_bytes : {a b c d : ℕ} (k : ℕ) → a ≡ k / 16777216 % 256 → b ≡ k / 65536 % 256 → c ≡ k / 256 % 256 → d ≡ k % 256 → hex_byte a ++ (hex_byte b ++ (hex_byte c ++ hex_byte d)) ≡ hex_word k
unfolding hex_word
word_bytes k e f g h = rw (e, f, g, h)

-- the end of a line, of lines that are equal
pub finishes_as : {before after counts left : List ℕ} {at r : ℕ} {ls ms : List Line} → ls ≡ ms → Finishes before at ls counts after r left → Finishes before at ms counts after r left
finishes_as {before} {after} {counts} {left} {at} {r} e f = subst (λ (ls : List Line). Finishes before at ls counts after r left) e f

pub count_words : {p q : ℕ} (bytes : List ℕ) → p ≡ get_or bytes 0 0 → q ≡ get_or bytes 1 0 → decimal (256 * p + q) ++ ascii "\n" ≡ decimal (length (lines_in bytes)) ++ ascii "\n"
count_words {p} {q} bytes e f =
    let n : 256 * p + q ≡ length (lines_in bytes) = omega (arith, lines-count bytes) in ap (λ (k : ℕ). decimal k ++ ascii "\n") n

-- a turn, case by case
module _ (order counts query : List ℕ) where
  turn_none : (head : List ℕ) → length head < 1 → turn_of order counts head query ≡ record { text = []; counts = counts; goes = false }
  unfolding turn_of
  turn_none [] h = refl
  turn_none (b ∷ head) h = absurd (omega arith)

  turn_bad : (head : List ℕ) → 1 ≤ length head → is_bad head ≡ true → turn_of order counts head query ≡ record { text = ascii "bad length\n"; counts = counts; goes = false }
  unfolding turn_of
  turn_bad [] h e = absurd (omega arith)
  turn_bad (b ∷ head) h e = rw e

  turn_query : (head : List ℕ) → 1 ≤ length head → is_bad head ≡ false →
      turn_of order counts head query ≡ record { text = query_line order query; counts = tallied counts (written_lines order query); goes = true }
  unfolding turn_of
  turn_query [] h e = absurd (omega arith)
  turn_query (b ∷ head) h e = rw e

  pub takes_none : (head before : List ℕ) → length head < 1 → Takes (turn_of order counts head query) before before 0 counts false
  takes_none head before h =
      subst (λ (t : Turn). Takes t before before 0 counts false) (sym (turn_none head h)) (record { wrote = writes_none before 0; short = omega arith; leaves = refl; going = refl })

  pub takes_bad : {before after : List ℕ} {r : ℕ} {b : Bool} (head : List ℕ) → 1 ≤ length head → b ≡ is_bad head → b ≡ true →
      Writes before 0 (ascii "bad length\n") after r → Takes (turn_of order counts head query) before after r counts false
  takes_bad {before} {after} {r} head h e f w =
      subst (λ (t : Turn). Takes t before after r counts false) (sym (turn_bad head h (sym e ∙ f))) (record { wrote = w; short = omega (arith, w.ends); leaves = refl; going = refl })

  pub takes_query : {before after left : List ℕ} {r : ℕ} {b : Bool} (head : List ℕ) → 1 ≤ length head → b ≡ is_bad head → b ≡ false →
      Prints before order query counts after r left → Takes (turn_of order counts head query) before after r left true
  takes_query {before} {after} {left} {r} head h e f p =
      subst (λ (t : Turn). Takes t before after r left true) (sym (turn_query head h (sym e ∙ f))) (record { wrote = p.wrote; short = p.short; leaves = p.leaves; going = refl })
