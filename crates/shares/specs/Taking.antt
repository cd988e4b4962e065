-- What the code of a turn leaves: each record equates it with the definition of its part.
use Rattle.std.specs.Prelude.{ℕ, ◌+◌, ◌≤◌, ◌≡◌, Bool, true, false, List, ◌++◌, length}
use Rattle.std.specs.declared.ops.ControlFlow.{ControlFlow}
use Rattle.std.specs.declared.ops.ControlFlow.TheVariants.{Continue, Break}
use Rattle.logic.specs.Facts.{Line}
use Rattle.text.specs.Text.{Writes, ascii, decimal}
use Rattle.tally.specs.Counting.{tallied}
use Rattle.sharing.specs.Output.{Turn, written_lines, query_line}

-- the end of a query's line, and the tally
pub record Finishes (before : List ℕ) (at : ℕ) (ls : List Line) (counts after : List ℕ) (r : ℕ) (left : List ℕ) : Type 0 where
  pub wrote : Writes before at (decimal (length ls) ++ ascii "\n") after r
  pub short : r ≤ at + 21
  pub leaves : left ≡ tallied counts ls

-- a whole line, and the tally
pub record Prints (before order query counts after : List ℕ) (r : ℕ) (left : List ℕ) : Type 0 where
  pub wrote : Writes before 0 (query_line order query) after r
  pub short : r ≤ 128
  pub leaves : left ≡ tallied counts (written_lines order query)

-- a turn
pub record Takes (turn : Turn) (before after : List ℕ) (r : ℕ) (left : List ℕ) (goes : Bool) : Type 0 where
  pub wrote : Writes before 0 turn.text after r
  pub short : r ≤ 128
  pub leaves : left ≡ turn.counts
  pub going : goes ≡ turn.goes

-- what a turn answers: the length of its text, and whether a query may follow
abbrev pub length_of : ControlFlow ℕ ℕ → ℕ
length_of (Continue r) = r
length_of (Break r) = r

abbrev pub may_follow : ControlFlow ℕ ℕ → Bool
may_follow (Continue r) = true
may_follow (Break r) = false
