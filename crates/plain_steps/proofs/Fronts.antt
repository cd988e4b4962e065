-- Plain steps at the path that is looked at, said of the path that they began with.
use Prim.Native.Nat.{ℕ, ◌+◌, ◌-◌, ◌≤◌, ◌<◌}
use mathlib.Core.Path.{◌≡◌}
use mathlib.Core.Bool.{Bool, true, false}
use mathlib.Core.List.{List}
use Rattle.logic.specs.Query.{Query, term_count, is_order}
use Rattle.logic.specs.Facts.{Facts, Line}
use Rattle.logic.specs.Rules.{Rule, triple, Move, move, branch}
use Rattle.logic.specs.Walk.{clashing, applying, saturated, look, order_of}
use Rattle.logic.specs.Steps.{AtMost}
use Rattle.logic.specs.Decision.{Struck}
use Rattle.theory.proofs.Query.Tied.{Accepted}
use Rattle.theory.proofs.Calls.Decision.{Known}
use Rattle.alternatives.specs.Alternatives.{count_of, alternative_at}
use Rattle.kinds.specs.Kinds.{is_refuted}
use Rattle.plain_steps.specs.Walks.{Ahead, WalksTo}
use Rattle.kinds.specs.declared.Kind.{Kind}
use Rattle.kinds.specs.declared.Kind.TheVariants as kind
use Rattle.plain_steps.proofs.Branches.{same_branch}
use Rattle.plain_steps.proofs.Ended.{walks_clash, walks_saturated}
use Rattle.plain_steps.proofs.Leads.{ahead_known, ahead_most, ahead_walks}
use Rattle.plain_steps.proofs.Turns.{some_left, walked_known, walked_fewer, walked_struck, walked_branch, walked_all}

module _ {q : Query} (order : List ℕ) (ok : Accepted q) (o : is_order order ≡ true) (k : ℕ) (s t : Facts) (known : Known q s)
    (most : AtMost (term_count q) s k) (n : ℕ) (terms_are : n ≡ term_count q) (a : Ahead n order s t) where
  later_known : Known q t
  later_known = ahead_known order ok o k s t known most n terms_are a

  later_most : AtMost (term_count q) t k
  later_most = ahead_most order ok o k s t known most n terms_are a

  pub front_clash : (l : Line) → look q (order_of order) t ≡ clashing l → (limited : Bool) (w : Facts) → WalksTo q order k s limited kind.Refuted w
  front_clash l h limited w = ahead_walks order ok o k s t known most n terms_are a limited kind.Refuted w (walks_clash order ok k t later_known limited w l h)

  pub front_saturated : look q (order_of order) t ≡ saturated → (limited : Bool) → WalksTo q order k s limited kind.Open t
  front_saturated h limited = ahead_walks order ok o k s t known most n terms_are a limited kind.Open t (walks_saturated order ok k t later_known limited h)

  module _ (l : ℕ) (r : Rule) (x y z : ℕ) (h : look q (order_of order) t ≡ applying (move l r (triple x y z))) where
    abbrev m : Move
    m = move l r (triple x y z)

    pub front_left : 1 ≤ k
    front_left = some_left order ok o k t later_known later_most n terms_are l r x y z h

    -- a branch of the path, whose arrays are p's
    module _ (p : Facts) (same : p ≡ t) (i : ℕ) (here : i < count_of r z) (u : Facts) (e : u ≡ (branch n p (alternative_at l n (p.graph l) r x y z i)).facts) where
      is_branch : u ≡ (branch n t (alternative_at l n (t.graph l) r x y z i)).facts
      is_branch = same_branch p t same n l r x y z i u e

      -- what the steps of the branch ask
      pub front_next : (1 ≤ k) × Known q u × AtMost (term_count q) u (k - 1)
      front_next = (
        front_left,
        walked_known order ok o k t later_known later_most n terms_are l r x y z h i here u is_branch,
        walked_fewer order ok o k t later_known later_most n terms_are l r x y z h i here u is_branch,
      )

      module _ (st : Struck q t m i) (limited : Bool) (w : Kind) (v : Facts) (told : WalksTo q order (k - 1) u limited w v) where
        pub front_struck : is_refuted w ≡ true → Struck q t m (i + 1)
        front_struck = walked_struck order ok o k t later_known later_most n terms_are l r x y z h i here u is_branch st limited w v told

        pub front_branch : is_refuted w ≡ false → WalksTo q order k s limited w v
        front_branch f = ahead_walks order ok o k s t known most n terms_are a limited w v
            (walked_branch order ok o k t later_known later_most n terms_are l r x y z h i here u is_branch st limited w v told f)

    pub front_all : (i : ℕ) → Struck q t m i → count_of r z ≤ i → (limited : Bool) (w : Facts) → WalksTo q order k s limited kind.Refuted w
    front_all i st past limited w = ahead_walks order ok o k s t known most n terms_are a limited kind.Refuted w
        (walked_all order ok o k t later_known later_most n terms_are l r x y z h i st past limited w)
