-- What is said of the lines of a walk.
use Rattle.std.specs.Prelude.{ℕ, ◌≤◌, ◌<◌, ◌≡◌, List, length, Option, IfSome, IfNone}
use Rattle.logic.specs.Facts.{Line}
use Rattle.logic.specs.Walk.{Ending, refutation}
use Rattle.walk.specs.Lines.{count_all, put_all}

-- Where the walk is refuted: all of its lines are counted and written behind the c that stand already; or it was stopped, and there are
-- more than `most`. The buffer keeps its length in any case.
pub record Lists (r : Option ℕ) (e : Ending) (before : List ℕ) (c most : ℕ) (bytes : List ℕ) : Type 0 where
  pub same_length : length bytes ≡ length before
  pub bounded : IfSome r (λ count. count ≤ 16001)
  pub whole : (ls : List Line) → e ≡ refutation ls → IfSome r (λ count. (count ≡ count_all c ls) × (bytes ≡ put_all before c ls))
  pub more : (ls : List Line) → e ≡ refutation ls → IfNone r (most < count_all c ls)
