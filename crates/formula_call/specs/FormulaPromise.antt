-- What the formula call promises, on every input: the answer, and every byte of what is lent.
use Rattle.std.specs.Prelude.{ℕ, ◌≤◌, ◌<◌, ◌≡◌, List, [], length, get_or}
use Rattle.logic.specs.Query.{decode}
use Rattle.logic.specs.Calls.{verdict_call}
use Rattle.formula.specs.Grammar.{Formula}
use Rattle.formula.specs.Expansion.{expand}
use Rattle.formula.specs.Meaning.{AllPresent, restricted}
use Rattle.encoding.specs.QueryBytes.{encode}
use Rattle.formula.specs.Call.{Input, Outcome, first_of}
use Rattle.formula.specs.Call as formula
use Rattle.formula_reader.specs.Tree.{Tree}
use Rattle.formula_reader.specs.Marked.{fits, Picks}
use Rattle.refusals.specs.declared.Refusal.{Refusal}
use Rattle.refusals.specs.Numbers.{number_of}
use Rattle.prover.specs.Promise.{Does}
use Rattle.prover.specs.declared.Answer.{Answer}
use Rattle.formula_call.specs.declared.FormulaAnswer.{FormulaAnswer}
use Rattle.formula_call.specs.declared.FormulaAnswer.TheVariants as answer

-- the definition's answer for each case of the enum
abbrev pub formula_meaning : FormulaAnswer → formula.Answer
formula_meaning (answer.Conjunction n) = formula.conjunction n
formula_meaning answer.Refuted = formula.refuted
formula_meaning (answer.Refused k place) = formula.refused k place

-- the answer for a refusal
abbrev pub refused_as : Refusal → FormulaAnswer
refused_as e = answer.Refused (number_of e.fault) e.place

abbrev pub formula_input : List ℕ → List ℕ → List ℕ → List ℕ → Input
formula_input order query text before = record { order = order; query = query; text = text; room = length before }

pub record DoesFormula (outcome : Outcome) (r : FormulaAnswer) (bytes : List ℕ) : Type 0 where
  pub answers : formula_meaning r ≡ outcome.answer
  pub leaves : bytes ≡ outcome.lent

-- the verdict call on the query of one conjunction
abbrev pub DecidesOne : List ℕ → List ℕ → List ℕ → ℕ → ℕ → List ℕ → Answer → List ℕ → Type 0
DecidesOne order query nodes root k before r bytes = (f : Formula) → Picks nodes root k f → Does (verdict_call (record { order = order; query = encode (restricted (decode query) (get_or (expand f) k [])); room = length before })) r bytes

-- a formula stands at a node, with at most 64 conjunctions
pub record Formulas (nodes : List ℕ) (root count : ℕ) (f : Formula) : Type 0 where
  pub tree : Tree nodes root f
  pub marks_fit : AllPresent fits f
  pub counted : count ≡ length (expand f)
  pub few : count ≤ 64
  pub placed : root < 512

abbrev pub FormulaAt : List ℕ → ℕ → ℕ → Type 0
FormulaAt nodes root count = (f : Formula) × Formulas nodes root count f

abbrev pub DecidesFirst : List ℕ → List ℕ → List ℕ → ℕ → ℕ → List ℕ → FormulaAnswer → List ℕ → Type 0
DecidesFirst order query nodes root count before r bytes = (f : Formula) (text : List ℕ) → Formulas nodes root count f → DoesFormula (first_of (formula_input order query text before) 1 (expand f)) r bytes
