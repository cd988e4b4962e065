-- The code's answers in the words of the definitions.
use Rattle.std.specs.Prelude.{ℕ, ◌+◌, ◌*◌, ◌-◌, ◌≤◌, ◌<◌, ◌≡◌, Bool, true, false, cond, List, length, get_or, drop, eqb, ltb, Option, Some, None, Result, Ok, Err}
use Rattle.logic.specs.Search.{◌and◌}
use Rattle.formula.specs.Grammar.{Letter, Formula, Level}
use Rattle.formula.specs.Reader.{Mark, blank, opening, closing, ampersand, bar, other, letter, digit, Reading, refused, done, named, closed, read, calls}
use Rattle.formula_reader.specs.Tree.{letter_code, Tree, has}
use Rattle.refusals.specs.declared.Refusal.{Refusal}
use Rattle.refusals.specs.Numbers.{number_of}
use Rattle.formula_reader.specs.declared.Parsed.{Parsed}
use Rattle.formula_reader.specs.declared.Start.{Start}
use Rattle.formula_reader.specs.declared.Start.TheVariants as start

-- a byte stands at a place
unfoldable pub stands : List ℕ → ℕ → ℕ → Bool
stands text at b = ltb at (length text) and eqb (get_or text at 0) b

-- a mark that begins no item
unfoldable pub begins_none : Mark → Bool
begins_none blank = true
begins_none opening = false
begins_none closing = true
begins_none ampersand = true
begins_none bar = true
begins_none other = true
begins_none (letter l) = false
begins_none digit = true

abbrev pub StartsAs : Option Start → Mark → Type 0
StartsAs (Some start.Opening) m = m ≡ opening
StartsAs (Some (start.Name code)) m = (l : Letter) × (m ≡ letter l) × (code ≡ letter_code l)
StartsAs None m = begins_none m ≡ true

-- numbers above 99 are not told apart
unfoldable pub saturated : ℕ → ℕ
saturated n = cond (ltb 99 n) 100 n

-- A formula was read from `at` to `next`; its nodes stand from `first` on, its root last, and those before are as they were.
pub record Grown (text : List ℕ) (at first next last : ℕ) (before after : List ℕ) : Type 0 where
  pub advanced : at < next
  pub within : next ≤ length text
  pub grown : first < last
  pub bounded : last + at ≤ first + next
  pub kept : (j : ℕ) → j < 4 * first → get_or after j 0 ≡ get_or before j 0
  pub same_length : length after ≡ length before

abbrev pub Ranged : Result Parsed Refusal → List ℕ → ℕ → ℕ → List ℕ → List ℕ → Type 0
Ranged (Err e) text at first before after = e.place ≤ length text
Ranged (Ok p) text at first before after = Grown text at first p.next p.used before after

-- what a reader found, as the definition's reading
abbrev pub FoundAs : Result Parsed Refusal → List ℕ → List ℕ → Reading → Type 0
FoundAs (Err e) text nodes r = r ≡ refused (number_of e.fault) (drop e.place text)
FoundAs (Ok p) text nodes r = (f : Formula) × (r ≡ done f (drop p.next text)) × Tree nodes (p.used - 1) f

-- with any count of calls that is enough
abbrev pub ReadAs : Result Parsed Refusal → Level → List ℕ → ℕ → ℕ → List ℕ → List ℕ → Type 0
ReadAs r level text at left counts nodes = (k : ℕ) → calls level (length text - at) ≤ k → FoundAs r text nodes (read (has counts) k level left (drop at text))

-- a query has at most 60 literals of each section
abbrev pub Counts : List ℕ → Type 0
Counts counts = (j : ℕ) → get_or counts j 0 ≤ 60

-- a name from its letter on
abbrev pub NamedAs : Result Parsed Refusal → ℕ → List ℕ → ℕ → List ℕ → List ℕ → Type 0
NamedAs r code text at counts nodes = (l : Letter) → code ≡ letter_code l → FoundAs r text nodes (named (has counts) l (drop at text) (drop (at + 1) text))

-- behind an or in parentheses: the nodes stay as they are
abbrev pub ClosedAs : Result Parsed Refusal → List ℕ → ℕ → ℕ → Type 0
ClosedAs (Err e) text at used = (e.place ≤ length text) × ((f : Formula) → closed f (drop at text) ≡ refused (number_of e.fault) (drop e.place text))
ClosedAs (Ok p) text at used = (at < p.next) × (p.next ≤ length text) × (p.used ≡ used) × ((f : Formula) → closed f (drop at text) ≡ done f (drop p.next text))
