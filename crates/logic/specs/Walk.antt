-- Our walk, and the hand's (01, "The eight rules" and "The hand's walk and ours").
use Rattle.std.specs.Prelude.{ℕ, zero, suc, ◌+◌, ◌*◌, Bool, not, cond, List, [], ◌∷◌, ◌++◌}
use Rattle.std.proofs.Math.Option.{Option, none, some, Option-elim}
use Rattle.logic.specs.Search.{◌and◌, any, all, is_some, flat_map}
use Rattle.logic.specs.Query.{Query, term_count}
use Rattle.logic.specs.Facts.{Facts, Joined, Line, join_lines, start_joins, start, clash}
use Rattle.logic.specs.Rules.{Rule, rules, rule_of, Triple, Move, Fact, alternatives, applies, branch, branches, choose, move_line, move_of}

-- What is seen at a path: its clash, the rule to apply, or neither (a saturated path).
pub data Look : Type 0 where
  clashing : Line → Look
  applying : Move → Look
  saturated : Look

-- the order list as rules
unfoldable pub order_of : List ℕ → List Rule
order_of order = flat_map (λ k. Option-elim (rule_of k) [] (λ r. r ∷ [])) order

-- "It is looked for before any rule and ends the path."
unfoldable pub look : Query → List Rule → Facts → Look
look q order s =
    let rest : Look = Option-elim (choose (term_count q) order s) saturated applying in
    Option-elim (clash q s) rest clashing

-- How our walk ends: all of its paths clash, and the lines say how; or a path has no clash and no applicable rule.
pub data Ending : Type 0 where
  refutation : List Line → Ending
  saturation : Facts → Ending

-- lines in front of those of a refutation
unfoldable pub after : List Line → Ending → Ending
after ls (refutation ms) = refutation (ls ++ ms)
after ls (saturation s) = saturation s

-- the ending of a branch and then, where it is refuted, of those to its right
unfoldable pub then_ending : Ending → Ending → Ending
then_ending (refutation ls) e = after ls e
then_ending (saturation s) e = saturation s

-- the ending of a branch, the lines of its joins "at the head of the branch" (02, R-1); w walks its facts
unfoldable pub walk_branch : (Facts → Ending) → Joined → Ending
walk_branch w j = after (join_lines j.pairs) (w j.facts)

-- the branches of s by these alternatives, "tried left to right", until one is not refuted
unfoldable pub walk_each : ℕ → (Facts → Ending) → Facts → List Fact → Ending
walk_each n w s [] = refutation []
walk_each n w s (c ∷ cs) = let rest : Ending = walk_each n w s cs in then_ending (walk_branch w (branch n s c)) rest

-- how a path ends at what is seen there; `go` goes on where a rule applies
unfoldable pub end_at : Facts → (Move → Ending) → Look → Ending
end_at s go (clashing l) = refutation (l ∷ [])
end_at s go (applying m) = go m
end_at s go saturated = saturation s

-- "The walk takes the first applicable rule of the order list, at the smallest triple .. Each branch is walked by the same routine
-- again, one step deeper." At most k rule steps are possible from the path: where none is, no rule applies, and a clash is all that is
-- looked for.
unfoldable pub walk : Query → List Rule → ℕ → Facts → Ending
walk q order zero s = Option-elim (clash q s) (saturation s) (λ l. refutation (l ∷ []))
walk q order (suc k) s =
    let n : ℕ = term_count q in
    end_at s (λ m. after (move_line m ∷ []) (walk_each n (walk q order k) s (alternatives n s.graph m))) (look q order s)

-- "no path of any walk .. has more than n times n plus n rule steps" (02, R-5); "(now 3 times n times n, plus n)" for three links (02, R-11)
unfoldable pub limit : Query → ℕ
limit q = q.links * (term_count q * term_count q) + term_count q

-- the lines of the start's joins stand at the head "of the listing" (02, R-1)
unfoldable pub our_walk : List ℕ → Query → Ending
our_walk order q = after (join_lines (start_joins q).pairs) (walk q (order_of order) (limit q) (start q))

pub data Verdict : Type 0 where
  satisfiable refuted : Verdict

-- "its verdict is then read in the same way"
unfoldable pub our_verdict : Ending → Verdict
our_verdict (refutation ls) = refuted
our_verdict (saturation s) = satisfiable

-- "A pick is a position in the row (from 1) and what a rule line holds, a rule number and its triple"; the link is in the number.
pub record Pick : Type 0 where
  pub position : ℕ
  pub rule : ℕ
  pub at_triple : Triple

unfoldable pub is_clashed : Query → Facts → Bool
is_clashed q s = is_some (clash q s)

-- "If a path without a clash stands at that position, and the rule applies to it at that triple, the path gives way to one path per
-- alternative, left to right .. Any other pick is vain: the row stays."
unfoldable pub picked : Query → Pick → Facts → List Facts
picked q p s =
    let n : ℕ = term_count q in
    Option-elim (move_of s.links p.rule p.at_triple) (s ∷ [])
    (λ m. cond (not (is_clashed q s) and applies n s m) (branches n s m) (s ∷ []))

-- f of the element at a place, in its place
unfoldable pub splice : (Facts → List Facts) → ℕ → List Facts → List Facts
splice f i [] = []
splice f zero (s ∷ row) = s ∷ row
splice f (suc zero) (s ∷ row) = f s ++ row
splice f (suc (suc i)) (s ∷ row) = s ∷ splice f (suc i) row

-- "Each pick meets the row that the last one left; nothing else changes it."
unfoldable pub pick_each : Query → List Pick → List Facts → List Facts
pick_each q [] row = row
pick_each q (p ∷ ps) row = pick_each q ps (splice (picked q p) p.position row)

-- "At first the row has one path, the start."
unfoldable pub hand_row : Query → List Pick → List Facts
hand_row q picks = pick_each q picks (start q ∷ [])

-- the path has no clash and no applicable rule
unfoldable pub is_saturated : Query → Facts → Bool
is_saturated q s = not (is_clashed q s) and not (is_some (choose (term_count q) rules s))

-- "the walk is finished, and refuted, if every path has a clash; finished, and satisfiable, if some path has no clash and no
-- applicable rule; else it is not finished"
unfoldable pub hand_verdict : Query → List Facts → Option Verdict
hand_verdict q row =
    cond (all (is_clashed q) row) (some refuted) (cond (any (is_saturated q) row) (some satisfiable) none)
