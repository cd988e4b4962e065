-- What the code's answer says of the goals that follow.
use Rattle.std.specs.Prelude.{ℕ, ◌+◌, ◌≤◌, ◌≡◌, List, [], ◌∷◌, drop, Result, Ok, Err, IfOk, IfErr, Option, Some, None, IfSome}
use Rattle.logic.specs.Query.{Query}
use Rattle.logic.specs.Facts.{Facts, join_lines}
use Rattle.logic.specs.Derivation.{lines_in}
use Rattle.checking.specs.Fitting.{Goal, start_goal, wrong_from, wrong_line}
use Rattle.derivation_lines.specs.Lines.{Shaped}

-- the first wrong line where i lines are read and these goals are left, or 0
unfoldable pub wrong_at : Query → List ℕ → List Goal → ℕ → ℕ
wrong_at q bytes gs i = wrong_from q gs (i + 1) (drop i (lines_in bytes))

-- How far lines fit: so many of them were read and all fit, or the first wrong line has this number.
abbrev pub Judged : Type 0
Judged = Result ℕ ℕ

-- the same, by the code's answer: these goals are left where lines fit so far
unfoldable pub resumed : Query → List ℕ → List Goal → Judged → ℕ
resumed q bytes gs (Ok read) = wrong_at q bytes gs read
resumed q bytes gs (Err wrong) = wrong

-- The first goal, from i lines on; whatever goals follow it.
pub record JudgesGoal (q : Query) (bytes : List ℕ) (count : ℕ) (g : Goal) (i : ℕ) (r : Judged) : Type 0 where
  pub judges : (gs : List Goal) → wrong_at q bytes (g ∷ gs) i ≡ resumed q bytes gs r
  pub within : IfOk r (λ read. read ≤ count)
  pub numbered : IfErr r (λ wrong. 1 ≤ wrong)

-- The join lines at its head, whatever the path.
pub record JudgesHead (bytes : List ℕ) (count : ℕ) (pairs : List (ℕ × ℕ)) (i : ℕ) (r : Judged) : Type 0 where
  pub judges : (q : Query) (s : Facts) (gs : List Goal) → wrong_at q bytes (record { heading = join_lines pairs; facts = s } ∷ gs) i ≡ resumed q bytes (record { heading = []; facts = s } ∷ gs) r
  pub within : IfOk r (λ read. read ≤ count)
  pub numbered : IfErr r (λ wrong. 1 ≤ wrong)

-- a line's number, 0 being none
abbrev pub number_of : Option ℕ → ℕ
number_of (Some line) = line
number_of None = 0

-- What is found of the start's goal tells the first wrong line, whatever query and bytes it was found of.
pub record Concludes (count : ℕ) (judged : Judged) (r : Option ℕ) : Type 0 where
  pub concludes : (q : Query) (bytes : List ℕ) → Shaped bytes count → JudgesGoal q bytes count (start_goal q) 0 judged → number_of r ≡ wrong_line q (lines_in bytes)
  pub numbered : (q : Query) (bytes : List ℕ) → JudgesGoal q bytes count (start_goal q) 0 judged → IfSome r (λ line. 1 ≤ line)
