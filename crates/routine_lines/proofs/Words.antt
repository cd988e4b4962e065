-- The words of a fault's line.
use Prim.Native.Nat.{ℕ}
use mathlib.Core.Path.{◌≡◌, refl}
use mathlib.Core.List.{◌++◌}
use Rattle.text.specs.Text.{ascii, decimal}
use Rattle.routine_text.specs.Builder.{Fault}
use Rattle.routine_lines.specs.declared.FaultWord.{FaultWord}
use Rattle.routine_lines.specs.declared.FaultWord.TheVariants as word
use Rattle.routine_lines.specs.Words.{word_of}
use Rattle.routine_lines.specs.Lines.{fault_word, place_text, fault_text}

module _ {w : FaultWord} where
  pub word_text : w ≡ word.Text → ascii "text" ≡ fault_word (word_of w)
  unfolding fault_word word_of
  word_text e = rw e refl

  pub word_name : w ≡ word.Name → ascii "name" ≡ fault_word (word_of w)
  unfolding fault_word word_of
  word_name e = rw e refl

  pub word_forall : w ≡ word.Forall → ascii "forall" ≡ fault_word (word_of w)
  unfolding fault_word word_of
  word_forall e = rw e refl

  pub word_limit : w ≡ word.Limit → ascii "limit" ≡ fault_word (word_of w)
  unfolding fault_word word_of
  word_limit e = rw e refl

pub place_words : (line column : ℕ) → decimal line ++ (ascii ":" ++ decimal column) ≡ place_text line column
unfolding place_text
place_words line column = refl

pub fault_words : (line column : ℕ) (f : Fault) →
    ascii "fault " ++ (place_text line column ++ (ascii " " ++ (fault_word f ++ ascii "\n"))) ≡ fault_text line column f
unfolding fault_text
fault_words line column f = refl
