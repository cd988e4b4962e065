-- How the machine of grammar_theory ends on a text's tokens, its actions doing nothing; and the code's answers in those words.
use Rattle.std.specs.Prelude.{ℕ, ◌+◌, ◌*◌, ◌<◌, ◌≡◌, List, ◌∷◌, ◌++◌, length}
use Rattle.grammar_theory.specs.Grammar.{Step, Kinds}
use Rattle.grammar_theory.specs.Machine.{Ending, accepted, stuck, run, start}
use Rattle.grammar_theory.specs.LL1.{moves}
use Rattle.routine_tokens.specs.declared.Token.{Token}
use Rattle.routine_tokens.specs.Tokens.{tokens}
use Rattle.routine_text.specs.Grammar.{grammar, predictions, facts}
use Rattle.routine_text.specs.Reading.{kinds_of}
use Rattle.routine_reader.specs.declared.Ended.{Ended}
use Rattle.routine_reader.specs.declared.Ended.TheVariants as ended

-- nothing is made: only where the machine ends counts
unfoldable pub nothing : Step → ℕ → ℕ
nothing step b = b

-- the machine with moves enough for as many tokens as the text has bytes
unfoldable pub recognised : List ℕ → Ending ℕ
recognised text = run nothing grammar predictions (moves facts 0 (length text)) (start 0 (kinds_of (tokens text)) 0)

-- The tokens of the text are those that are read and these, the first of which stands at the place.
pub record Left (text : List ℕ) (place : ℕ) (left : Kinds) : Type 0 where
  pub read : List Token
  pub first : Token
  pub rest : List Token
  pub split : read ++ (first ∷ rest) ≡ tokens text
  pub kinds : kinds_of (first ∷ rest) ≡ left
  pub starts : first.start ≡ place

-- The text is read; or its token at this place is the first that no text has there; or the array, that long, is too short for the stack. The moves are
-- always enough.
abbrev pub EndsAs : Ended → List ℕ → ℕ → Type 0
EndsAs ended.Accepted text room = recognised text ≡ accepted 0
EndsAs (ended.Stuck place) text room = (left : Kinds) × (recognised text ≡ stuck left 0) × Left text place left
EndsAs ended.Unfinished text room = ⊥
EndsAs ended.Full text room = room < 15 * moves facts 0 (length text) + 17
