-- What plain steps say of a path.
use Rattle.std.specs.Prelude.{ℕ, ◌≡◌, Bool, true, false, List}
use Rattle.logic.specs.Query.{Query}
use Rattle.logic.specs.Facts.{Facts}
use Rattle.logic.specs.Walk.{order_of, walk, saturation}
use Rattle.logic.specs.Decision.{NoHeap, Closes}
use Rattle.closing.specs.Closed.{Closed, begins}
use Rattle.kinds.specs.declared.Kind.{Kind}
use Rattle.kinds.specs.declared.Kind.TheVariants as kind

-- the path that plain steps look at: closed under REFLEX, TRANS1 and TRANS2 where the order list begins with these
abbrev pub Ahead : ℕ → List ℕ → Facts → Facts → Type 0
Ahead n order s t = (begins order ≡ true → Closes n s t × Closed n t) × (begins order ≡ false → t ≡ s)

-- "refuted" only if no finite heap meets the query and the facts of the path; where they find the path open, they end where our walk does; they
-- give up only where they are limited
pub record WalksTo (q : Query) (order : List ℕ) (k : ℕ) (s : Facts) (limited : Bool) (r : Kind) (w : Facts) : Type 0 where
  pub refuted : r ≡ kind.Refuted → NoHeap q s
  pub ends : r ≡ kind.Open → walk q (order_of order) k s ≡ saturation w
  pub gives_up : r ≡ kind.Unknown → limited ≡ true
