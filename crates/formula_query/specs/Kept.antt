-- The literals of a query that are marked, as bytes.
use Rattle.std.specs.Prelude.{ℕ, ◌+◌, ◌*◌, ◌<◌, ◌≡◌, Bool, false, List, length, get_or}
use Rattle.logic.specs.Query.{Literal, decode}
use Rattle.text.specs.Text.{Writes}
use Rattle.formula.specs.Grammar.{Letter}
use Rattle.formula.specs.Expansion.{Conjunction}
use Rattle.formula.specs.Meaning.{names, chosen, restricted}
use Rattle.encoding.specs.QueryBytes.{encode}
use Rattle.formula_reader.specs.Marked.{marked}

-- literal n of the section with this code is marked
abbrev pub mark : List Bool → ℕ → ℕ → Bool
mark marks code n = get_or marks (64 * code + n) false

-- how many of as many literals as these are marked
abbrev pub Counted : ℕ → List Bool → ℕ → ℕ → Type 0
Counted r marks code count = (ls : List Literal) → length ls ≡ count → r ≡ length (chosen (mark marks code) 1 ls)

-- the bytes of the query of a conjunction, whichever has these marks
abbrev pub PutsQuery : List ℕ → List Bool → List ℕ → List ℕ → ℕ → Type 0
PutsQuery query marks before after r = (c : Conjunction) → ((l : Letter) (n : ℕ) → n < 64 → marked marks l n ≡ names c l n) → Writes before 0 (encode (restricted (decode query) c)) after r
