-- What a hand writes of its walk: which of its picks are not vain, and lines of which they are the rule lines (01, "The hand's walk and
-- ours"; 02, R-8: "a hand following the rules").
use Rattle.std.specs.Prelude.{ℕ, ◌≡◌, Bool, true, not, cond, List, [], ◌∷◌, map, length, eqb}
use Rattle.logic.specs.Search.{◌and◌, ◌or◌, select, at, holds_of}
use Rattle.logic.specs.Query.{Query, term_count}
use Rattle.logic.specs.Facts.{Facts, Line, line, start, is_clash}
use Rattle.logic.specs.Rules.{Triple, triple, applies, move_of}
use Rattle.logic.specs.Walk.{Pick, is_clashed, picked, splice, hand_row}
use Rattle.logic.specs.Derivation.{Derivation}
use Rattle.checking.specs.Fitting.{same_line}

-- "If a path without a clash stands at that position, and the rule applies to it at that triple": so at a path
unfoldable pub is_taken : Query → Pick → Facts → Bool
is_taken q p s = not (is_clashed q s) and holds_of (move_of s.links p.rule p.at_triple) (applies (term_count q) s)

-- "Any other pick is vain: the row stays."
unfoldable pub is_vain : Query → Pick → List Facts → Bool
is_vain q p row = not (holds_of (at row p.position) (is_taken q p))

-- the picks that are not vain, each at the row that it meets
unfoldable pub taken_from : Query → List Pick → List Facts → List Pick
taken_from q [] row = []
taken_from q (p ∷ ps) row =
    let rest : List Pick = taken_from q ps (splice (picked q p) p.position row) in cond (is_vain q p row) rest (p ∷ rest)

unfoldable pub taken_picks : Query → List Pick → List Pick
taken_picks q picks = taken_from q picks (start q ∷ [])

-- "what a rule line holds, a rule number and its triple"
unfoldable pub line_with : ℕ → Triple → Line
line_with k (triple x y z) = line k x y z

unfoldable pub pick_line : Pick → Line
pick_line p = line_with p.rule p.at_triple

-- "A clash line is 9, section, place ..", "a line 10, kept term, replaced term, 0" is a join's (02, R-1), and every other is a rule line.
unfoldable pub is_clash_line : Line → Bool
is_clash_line (line k a b c) = eqb k 9

unfoldable pub is_rule_line : Line → Bool
is_rule_line (line k a b c) = not (eqb k 9 or eqb k 10)

-- how often a line stands among others
unfoldable pub occurrences : Line → List Line → ℕ
occurrences l ls = length (select (same_line l) ls)

-- "each path ends in a true clash (any one, with any plain partner)": one for each path of a row, left to right
pub data Ends (q : Query) : List Facts → List Line → Type 0 where
  no_path : Ends q [] []
  one_more : {s : Facts} {row : List Facts} (l : Line) {ls : List Line} → is_clash q s l ≡ true → Ends q row ls → Ends q (s ∷ row) (l ∷ ls)

-- Lines that a hand writes after these picks: they follow the rules, their rule lines are the picks that were not vain, each as often, and
-- their clash lines end the paths of the last row.
pub record HandWrites (q : Query) (picks : List Pick) (lines : List Line) : Type 0 where
  pub follows : Derivation q lines
  pub rule_lines_lem : (l : Line) → occurrences l (select is_rule_line lines) ≡ occurrences l (map pick_line (taken_picks q picks))
  pub clash_lines_lem : Ends q (hand_row q picks) (select is_clash_line lines)
