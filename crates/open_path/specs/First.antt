-- The first branch that is not refuted.
use Rattle.std.specs.Prelude.{ℕ, ◌<◌, ◌≡◌, length, get_or}
use Rattle.logic.specs.Query.{Query, term_count}
use Rattle.logic.specs.Facts.{Facts}
use Rattle.logic.specs.Rules.{Move, branches}
use Rattle.logic.specs.Decision.{HasHeap, Struck}

-- it has a heap, and those before it have none
pub record FirstOpen (q : Query) (s : Facts) (m : Move) (t : Facts) : Type 0 where
  pub place : ℕ
  pub in_row : place < length (branches (term_count q) s m)
  pub struck : Struck q s m place
  pub branch_at : get_or (branches (term_count q) s m) place s ≡ t
  pub has_heap : HasHeap q t
