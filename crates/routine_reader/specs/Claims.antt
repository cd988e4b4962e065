-- What the code's answers say of a text, by the theorems about the grammar (03, "What must be proved", 1).
use Rattle.std.specs.Prelude.{ℕ, ◌≡◌, List}
use Rattle.grammar_theory.specs.Grammar.{Kinds, Steps}
use Rattle.grammar_theory.specs.Machine.{accepted, stuck, unfinished}
use Rattle.grammar_theory.specs.Claims.{Fault}
use Rattle.routine_text.specs.Grammar.{grammar}
use Rattle.routine_text.specs.Claims.{kinds, Grammatical}
use Rattle.routine_reader.specs.Answers.{nothing, recognised}

pub record RecogniserClaims : Type 0 where
  -- the moves are enough for every text
  pub recognised_ended : (text : List ℕ) → recognised text ≡ unfinished → ⊥
  -- "Accepted are exactly the texts of the grammar"
  pub accepted_text : (text : List ℕ) → recognised text ≡ accepted 0 → (steps : Steps) × Grammatical text steps
  pub text_accepted : (text : List ℕ) (steps : Steps) → Grammatical text steps → recognised text ≡ accepted 0
  -- "the first word or sign that no text of the grammar could have there": the kinds before it begin a text, and with it none
  pub stuck_fault : (text : List ℕ) (left : Kinds) → recognised text ≡ stuck left 0 → Fault grammar 0 nothing (kinds text) left 0 0
