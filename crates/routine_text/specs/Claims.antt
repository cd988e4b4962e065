-- What is claimed of reading (03, "What must be proved"): "Accepted are exactly the texts of the grammar within the limits; each has one reading; the
-- fault given is the first."
use Rattle.std.specs.Prelude.{ℕ, ◌≤◌, ◌≡◌, false, length, drop}
use mathlib.Core.List.{List, [], ◌∷◌, ◌++◌, Memᴰ}
use Rattle.grammar_theory.specs.Grammar.{Kinds, Steps, Text, Begins}
use Rattle.grammar_theory.specs.Machine.{after}
use Rattle.grammar_theory.specs.Claims.{Refused, Certain}
use Rattle.routine_tokens.specs.Tokens.{tokens, line_of, column_of}
use Rattle.routine_text.specs.Builder.{Word, Fault, text_fault, Mark}
use Rattle.routine_text.specs.Grammar.{grammar}
use Rattle.routine_text.specs.Reading.{Reader, does, empty, kinds_of, words_of, before, length_marks, place_of, Contents, contents_of, Reading, read, faulty, read_text}

-- the words and signs of a text, as kinds and as they stand there
abbrev pub kinds : List ℕ → Kinds
kinds text = kinds_of (tokens text)

abbrev pub words : List ℕ → List Word
words text = words_of text (tokens text)

-- a text of the grammar, read by these steps
abbrev pub Grammatical : List ℕ → Steps → Type 0
Grammatical text steps = Text grammar 0 (kinds text) steps

-- what steps make of a text
unfoldable pub made : List ℕ → Steps → Reader
made text steps = after does steps (record { coming = words text; built = empty })

-- A text outside the grammar: "the first word or sign that no text of the grammar could have there" (the end of the text counts as one). Those before it
-- begin some text, and with it none; every text that begins with them has the steps `sure` at its beginning.
pub record Outside (text : List ℕ) : Type 0 where
  pub passed : Kinds
  pub left : Kinds
  pub split : passed ++ left ≡ kinds text
  pub begins : Begins grammar 0 passed
  pub refused : Refused grammar 0 passed left
  pub sure : Steps
  pub certain : Certain grammar 0 passed sure

-- the faults of a text: those that its steps mark; outside the grammar also `text`, "at the first byte" of that word or sign
pub data Faults (text : List ℕ) : List Mark → Type 0 where
  within : (steps : Steps) → Grammatical text steps → Faults text (length_marks (length text) ++ (made text steps).built.marks)
  outside : (o : Outside text) →
      Faults text (length_marks (length text) ++ (record { place = place_of (drop (length o.passed) (words text)); fault = text_fault } ∷ (made text o.sure).built.marks))

-- "The fault is the one at the smallest place; at one place `text` goes before `name`, `name` before `forall`, `forall` before `limit`."
pub record First (ms : List Mark) (m : Mark) : Type 0 where
  pub one_of : Memᴰ m ms
  pub none_before : (n : Mark) → Memᴰ n ms → before n m ≡ false

-- the fault on this line, in this column and with this word is the first one of a text
pub record FirstFault (text : List ℕ) (line column : ℕ) (fault : Fault) : Type 0 where
  pub marks : List Mark
  pub of_text : Faults text marks
  pub mark : Mark
  pub is_first : First marks mark
  pub on_line : line ≡ line_of text mark.place
  pub in_column : column ≡ column_of text mark.place
  pub of_kind : fault ≡ mark.fault

-- a text of the grammar, read by these steps, is within the limits and without faults
pub record Good (text : List ℕ) (steps : Steps) : Type 0 where
  pub grammatical : Grammatical text steps
  pub short : length text ≤ 8192
  pub unmarked : (made text steps).built.marks ≡ []

pub record ReadingClaims : Type 0 where
  -- "Accepted are exactly the texts of the grammar within the limits"
  pub good_accepted : (text : List ℕ) (steps : Steps) → Good text steps → read_text text ≡ read (contents_of (made text steps).built)
  pub accepted_good : (text : List ℕ) (c : Contents) → read_text text ≡ read c → (steps : Steps) × Good text steps × (c ≡ contents_of (made text steps).built)
  -- "each has one reading"
  pub one_reading : (text : List ℕ) (steps other : Steps) → Grammatical text steps → Grammatical text other → steps ≡ other
  -- "the fault given is the first"
  pub first_given : (text : List ℕ) (line column : ℕ) (fault : Fault) → read_text text ≡ faulty line column fault → FirstFault text line column fault
