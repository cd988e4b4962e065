-- The literals of a section taken one after the other, as a loop meets them: what is left comes out as the whole.
use Prim.Native.Nat.{ℕ, ◌+◌, ◌≤◌, ◌<◌}
use mathlib.Core.Path.{◌≡◌, refl, ap, ◌∙◌}
use mathlib.Core.Bool.{cond}
use mathlib.Core.List.{List, [], ◌∷◌}
use Rattle.logic.specs.Query.{Literal}
use Rattle.logic.specs.Facts.{Facts, Joined, add_reach, and_then, join_each, reach_each}
use Rattle.query.proofs.Literals.{listed, listed_next, listed_end}
use Rattle.joins.proofs.Joins.{and_then-unjoined, and_then-and_then}
use Rattle.plain_literals.specs.Taken.{join_one}

-- `each` takes the literals of a list in order, and `one` a single one, into what is of type S
pub record InOrder {S : Type 0} (each : List Literal → S → S) (one : Literal → S → S) : Type 0 where
  pub done : (s : S) → each [] s ≡ s
  pub next : (l : Literal) (ls : List Literal) (s : S) → each (l ∷ ls) s ≡ each ls (one l s)

-- equalities are joined behind what was joined before
abbrev pub join_behind : ℕ → List Literal → Joined → Joined
join_behind n ls j = and_then j (join_each n ls)

abbrev pub one_behind : ℕ → Literal → Joined → Joined
one_behind n l j = and_then j (join_one n l)

pub joins : (n : ℕ) → InOrder (join_behind n) (one_behind n)
unfolding join_each join_one
joins n = record { done = and_then-unjoined; next = λ l ls j. and_then-and_then j (join_one n l) (join_each n ls) }

-- a plain reachability fact is added, read through `rep`
unfoldable pub reach_one : Literal → Facts → Facts
reach_one l s = cond l.plain (add_reach l.link (s.rep l.left) (s.rep l.right) s) s

pub reaches : InOrder reach_each reach_one
unfolding reach_each reach_one
reaches = record { done = λ s. refl; next = λ l ls s. refl }

-- what is left from literal i on, at s, comes out as all of it at s₀
abbrev pub Left : {S : Type 0} → (List Literal → S → S) → List Literal → ℕ → (ℕ → Literal) → S → ℕ → S → Type 0
Left each ls count f s₀ i s = each ls s₀ ≡ each (listed f count i) s

module _ {S : Type 0} {each : List Literal → S → S} {one : Literal → S → S} (o : InOrder each one) (f : ℕ → Literal) (count : ℕ) (ls : List Literal) (are : ls ≡ listed f count 0) (s₀ : S) where
  pub each_begin : Left each ls count f s₀ 0 s₀
  each_begin = ap (λ (xs : List Literal). each xs s₀) are

  pub each_next : (i : ℕ) (s : S) → i < count → Left each ls count f s₀ i s → Left each ls count f s₀ (i + 1) (one (f i) s)
  each_next i s h left = left ∙ ap (λ (xs : List Literal). each xs s) (listed_next f count i h) ∙ o.next (f i) _ s

  pub each_end : (i : ℕ) (s : S) → count ≤ i → Left each ls count f s₀ i s → each ls s₀ ≡ s
  each_end i s h left = left ∙ ap (λ (xs : List Literal). each xs s) (listed_end f count i h) ∙ o.done s
