-- Which lines fit where they stand, and which is the first that does not (02, R-8). Nothing here is a walk of ours: what is still to be
-- refuted is kept as a list, and a line either fits what stands first there or does not.
use Rattle.std.specs.Prelude.{ℕ, suc, ◌≡◌, Bool, cond, List, [], ◌∷◌, ◌++◌, map, length, eqb}
use Rattle.std.proofs.Math.Option.{Option, none, some, Option-elim}
use Rattle.logic.specs.Search.{◌and◌, keep}
use Rattle.logic.specs.Query.{Query, term_count}
use Rattle.logic.specs.Facts.{Facts, Joined, Line, line, join_lines, start_joins, start, is_clash}
use Rattle.logic.specs.Rules.{triple, Move, alternatives, applies, branch, move_of}
use Rattle.logic.specs.Walk.{is_clashed}

-- A path that is still to be refuted: the join lines still to come at its head, and its facts.
pub record Goal : Type 0 where
  pub heading : List Line
  pub facts : Facts

unfoldable pub goal_of : Joined → Goal
goal_of j = record { heading = join_lines j.pairs; facts = j.facts }

-- one number is the other, all four are
unfoldable pub same_line : Line → Line → Bool
same_line (line a b c d) (line w x y z) = eqb a w and eqb b x and eqb c y and eqb d z

-- the rule, by one of so many links, and the triple that a line holds
unfoldable pub move_in : ℕ → Line → Option Move
move_in links (line k x y z) = move_of links k (triple x y z)

-- "its branches are all there in order": what is to be refuted once a rule line stands at a path
unfoldable pub goals_of : ℕ → Facts → Move → List Goal
goals_of n s m = map (λ c. goal_of (branch n s c)) (alternatives n s.graph m)

-- "each rule line applies where it stands": the goals that it leaves
unfoldable pub after_rule : Query → Facts → Line → Option (List Goal)
after_rule q s l =
    let n : ℕ = term_count q in
    Option-elim (move_in s.links l) none (λ m. keep (applies n s m) (goals_of n s m))

-- What a line leaves of a path: "each path ends in a true clash (any one, with any plain partner) as soon as a clash stands"; where none
-- stands, a rule line leaves its branches. No other line fits there.
unfoldable pub at_path : Query → Facts → Line → Option (List Goal)
at_path q s l =
    let rest : Option (List Goal) = cond (is_clashed q s) none (after_rule q s l) in
    cond (is_clash q s l) (some []) rest

-- the lines still to come at a head, "as ours"
unfoldable pub at_goal : Query → List Line → Facts → Line → Option (List Goal)
at_goal q [] s l = at_path q s l
at_goal q (h ∷ hs) s l = keep (same_line l h) (record { heading = hs; facts = s } ∷ [])

-- What a line leaves of all that is still to be refuted, next first. "nothing follows": where nothing is left, no line fits.
unfoldable pub step : Query → List Goal → Line → Option (List Goal)
step q [] l = none
step q (g ∷ gs) l = Option-elim (at_goal q g.heading g.facts l) none (λ new. some (new ++ gs))

-- at first: the start, the lines of its joins at its head
unfoldable pub start_goal : Query → Goal
start_goal q = record { heading = join_lines (start_joins q).pairs; facts = start q }

-- 0 where nothing is left
unfoldable pub short_of : ℕ → List Goal → ℕ
short_of i [] = 0
short_of i (g ∷ gs) = i

-- "Otherwise the first wrong line's number is given, count plus 1 if the lines run out": lines from number i on, and 0 where none is wrong
unfoldable pub wrong_from : Query → List Goal → ℕ → List Line → ℕ
wrong_from q gs i [] = short_of i gs
wrong_from q gs i (l ∷ ls) = Option-elim (step q gs l) i (λ hs. wrong_from q hs (suc i) ls)

unfoldable pub wrong_line : Query → List Line → ℕ
wrong_line q lines = wrong_from q (start_goal q ∷ []) 1 lines

-- The same, said without a count: these lines fit, one after the other, and leave these goals.
pub data Fit (q : Query) : List Goal → List Line → List Goal → Type 0 where
  no_line : {gs : List Goal} → Fit q gs [] gs
  one_more : {gs hs ks : List Goal} (l : Line) {ls : List Line} → step q gs l ≡ some hs → Fit q hs ls ks → Fit q gs (l ∷ ls) ks

-- the next line does not fit, or there is none where one is needed
abbrev pub Unfit : Query → List Goal → List Line → Type 0
Unfit q gs [] = gs ≡ [] → ⊥
Unfit q gs (l ∷ ls) = step q gs l ≡ none

-- Line k is the first wrong one: every line before it fits where it stands, and it does not.
pub record FirstWrong (q : Query) (lines : List Line) (k : ℕ) : Type 0 where
  pub before : List Line
  pub rest : List Line
  pub goals : List Goal
  pub split : lines ≡ before ++ rest
  pub number : k ≡ suc (length before)
  pub fit : Fit q (start_goal q ∷ []) before goals
  pub unfit : Unfit q goals rest
