-- What the decision says.
use Prim.Native.Nat.{ℕ}
use mathlib.Core.Path.{◌≡◌, refl}
use mathlib.Core.Bool.{Bool, true, false, true≢false, false≢true}
use mathlib.Core.List.{List}
use Rattle.logic.specs.Query.{Query, term_count, is_order}
use Rattle.logic.specs.Facts.{Facts}
use Rattle.logic.specs.Walk.{order_of}
use Rattle.logic.specs.Steps.{AtMost}
use Rattle.logic.specs.Decision.{Reachable, HasHeap}
use Rattle.theory.proofs.Query.Tied.{Accepted}
use Rattle.theory.proofs.Walks.Order.{order_full}
use Rattle.theory.proofs.Calls.Decision.{reachable_known, walk-saturation}
use Rattle.kinds.specs.Kinds.{is_refuted}
use Rattle.plain_steps.specs.Walks.{WalksTo}
use Rattle.kinds.specs.declared.Kind.{Kind}
use Rattle.kinds.specs.declared.Kind.TheVariants as kind
use Rattle.decide.specs.Tells.{Shows}

-- plain steps that are not limited and do not refute a path: it has a heap
module _ {q : Query} (ok : Accepted q) (order : List ℕ) (o : is_order order ≡ true) (k : ℕ) (s : Facts) (reach : Reachable q s) (most : AtMost (term_count q) s k)
    (w : Kind) (p : Facts) (told : WalksTo q order k s false w p) where
  has : (c : Kind) → w ≡ c → is_refuted c ≡ false → HasHeap q s
  has kind.Refuted f e = absurd (true≢false e)
  has kind.Open f e = walk-saturation q ok (order_of order) (order_full order o) k s (reachable_known q ok s reach) most p (told.ends f)
  has kind.Unknown f e = absurd (false≢true (told.gives_up f))

  pub walked_open : is_refuted w ≡ false → Shows q s true s
  walked_open e =
      let h = has w refl e in
      record { decides = record { yes_right = λ z. h; no_right = λ z. absurd (true≢false z) }; shows = λ z. h }
