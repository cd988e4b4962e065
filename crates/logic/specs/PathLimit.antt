-- What is said of the path limit (02, R-5), as a statement about the definitions.
use Rattle.std.specs.Prelude.{ℕ, ◌≡◌, true}
use mathlib.Core.List.{List, Memᴰ}
use Rattle.logic.specs.Query.{Query, term_count}
use Rattle.logic.specs.Facts.{Facts, join_lines, start_joins, start}
use Rattle.logic.specs.Rules.{Rule}
use Rattle.logic.specs.Walk.{order_of, Ending, after, limit, our_walk, Pick, hand_row}
use Rattle.logic.specs.OurWalk.{Walks}
use Rattle.logic.specs.Steps.{Steps, AtMost}
use Rattle.logic.specs.Calls.{CallForm, accepts_by}

-- R-5, for queries of any form. "No path of any walk, whichever applicable rule is picked each time, has more than n times n plus n rule steps"
pub record PathLimit (f : CallForm) : Type 0 where
  pub every_path : (query : List ℕ) → accepts_by f query ≡ true → AtMost (term_count (f.decode query)) (start (f.decode query)) (limit (f.decode query))
  -- such steps lead to each path of a hand's row
  pub hand_path : (query : List ℕ) (picks : List Pick) (s : Facts) → Memᴰ s (hand_row (f.decode query) picks) → (k : ℕ) × Steps (term_count (f.decode query)) (start (f.decode query)) k s
  -- so our walk, which counts them, has the one ending that it has without a count
  pub our_walk_lem : (query order : List ℕ) → accepts_by f query ≡ true → (e : Ending) × Walks (f.decode query) (order_of order) (start (f.decode query)) e × (our_walk order (f.decode query) ≡ after (join_lines (start_joins (f.decode query)).pairs) e)
  pub one_ending : (q : Query) (order : List Rule) (s : Facts) (e e' : Ending) → Walks q order s e → Walks q order s e' → e ≡ e'
