-- What a strategy may say of a path, and what the decision of a path says.
use Rattle.std.specs.Prelude.{◌≡◌, Bool, true, false, Option, Some, None}
use Rattle.logic.specs.Query.{Query}
use Rattle.logic.specs.Facts.{Facts}
use Rattle.logic.specs.Decision.{HasHeap, NoHeap}
use Rattle.facts.specs.Path.{path_of}
use Rattle.facts.specs.declared.Facts as code
use Rattle.kinds.specs.declared.Kind.{Kind}
use Rattle.kinds.specs.declared.Kind.TheVariants as kind

-- "refuted" only if no finite heap meets the query and the facts of the path, "open" only if some does; "unknown" says nothing
pub record Tells (q : Query) (s : Facts) (k : Kind) : Type 0 where
  pub refuted : k ≡ kind.Refuted → NoHeap q s
  pub has : k ≡ kind.Open → HasHeap q s

-- the same, and where it is "open", of a path with a heap: that where it ended
pub record Ends (q : Query) (s : Facts) (k : Kind) (w : Facts) : Type 0 where
  pub tells : Tells q s k
  pub shows : k ≡ kind.Open → HasHeap q w

-- the decision: "yes" exactly if some finite heap meets the query and the facts of the path, "no" exactly if none of any size does
pub record Decides (q : Query) (s : Facts) (r : Bool) : Type 0 where
  pub yes_right : r ≡ true → HasHeap q s
  pub no_right : r ≡ false → NoHeap q s

-- the decision, and where it is "yes", of a path with a heap, which may be another
pub record Shows (q : Query) (s : Facts) (r : Bool) (w : Facts) : Type 0 where
  pub decides : Decides q s r
  pub shows : r ≡ true → HasHeap q w

-- the decision of a path: "yes", with a path that has a heap, or "no"
abbrev pub Finds : Query → Facts → Option code.Facts → Type 0
Finds q s (Some w) = Shows q s true (path_of w)
Finds q s None = Decides q s false
