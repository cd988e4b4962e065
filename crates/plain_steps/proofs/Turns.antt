-- Plain steps where a rule applies: the branches one after the other.
use Prim.Native.Nat.{ℕ, ◌+◌, ◌-◌, ◌≤◌, ◌<◌}
use native.Mathlib.Omega.{arith}
use mathlib.Core.Path.{◌≡◌, sym, ap, ◌∙◌, subst}
use mathlib.Core.Bool.{Bool, true, false, true≢false}
use mathlib.Core.List.{List}
use lib.ListN.{length, get_or}
use Rattle.logic.specs.Query.{Query, term_count, is_order}
use Rattle.logic.specs.Facts.{Facts}
use Rattle.logic.specs.Rules.{Rule, triple, Move, move, applies, alternatives, add, branch, branches}
use Rattle.logic.specs.Walk.{applying, look, order_of, walk, saturation}
use Rattle.logic.specs.Steps.{AtMost}
use Rattle.logic.specs.Decision.{NoHeap, Struck}
use Rattle.theory.proofs.Basics.Search.{map-mem}
use Rattle.theory.proofs.Query.Tied.{Accepted}
use Rattle.theory.proofs.Walks.Order.{order_full}
use Rattle.theory.proofs.Walks.Derives.{seen-applying}
use Rattle.theory.proofs.Walks.OurWalk.{look-some, look_fewer}
use Rattle.theory.proofs.Calls.Decision.{Known, struck_next, struck_all, branch_at, walk_first}
use Rattle.theory.proofs.Basics.Count.{get_d_mem}
use Rattle.alternatives.specs.Alternatives.{count_of, alternative_at}
use Rattle.kinds.specs.Kinds.{is_refuted}
use Rattle.plain_steps.specs.Walks.{WalksTo}
use Rattle.kinds.specs.declared.Kind.{Kind}
use Rattle.kinds.specs.declared.Kind.TheVariants as kind
use Rattle.plain_steps.proofs.Branches.{row-length, row_at}
use Rattle.plain_steps.proofs.Cases.{refuted_open, refuted_unknown, refuted_is}

-- each branch of a rule that is seen has a step fewer
pub row_fewer : (q : Query) (order : List Rule) (k : ℕ) (s : Facts) (m : Move) → AtMost (term_count q) s k → look q order s ≡ applying m → (i : ℕ) →
    i < length (branches (term_count q) s m) → AtMost (term_count q) (get_or (branches (term_count q) s m) i s) (k - 1)
unfolding branches
row_fewer q order k s m most h i l =
    let (c, ci, e) = map-mem (add (term_count q) s) (get_or (branches (term_count q) s m) i s) (alternatives (term_count q) s.graph m) (get_d_mem (branches (term_count q) s m) i s l) in
    subst (λ (t : Facts). AtMost (term_count q) t (k - 1)) (sym e) (look_fewer q order k s m most h c ci)

-- no branch yet
pub struck_none : (q : Query) (s : Facts) (m : Move) (i : ℕ) → i ≡ 0 → Struck q s m i
struck_none q s m i e j l = absurd (omega arith)

module _ {q : Query} (order : List ℕ) (ok : Accepted q) (o : is_order order ≡ true) (k : ℕ) (s : Facts) (known : Known q s)
    (most : AtMost (term_count q) s k) (n : ℕ) (terms_are : n ≡ term_count q) (l : ℕ) (r : Rule) (x y z : ℕ)
    (h : look q (order_of order) s ≡ applying (move l r (triple x y z))) where
  abbrev m : Move
  m = move l r (triple x y z)

  app : applies (term_count q) s m ≡ true
  app = (seen-applying q (order_of order) s h).1

  pub some_left : 1 ≤ k
  some_left = look-some q (order_of order) k s m most h

  module _ (i : ℕ) (here : i < count_of r z) (t : Facts) (e : t ≡ (branch n s (alternative_at l n (s.graph l) r x y z i)).facts) where
    in_row : i < length (branches (term_count q) s m)
    in_row = omega (arith, row-length q n s l r x y z terms_are)

    at : get_or (branches (term_count q) s m) i s ≡ t
    at = sym (row_at q n s l r x y z terms_are i t here e)

    pub walked_known : Known q t
    walked_known = subst (Known q) at (branch_at q ok s known m app i in_row)

    pub walked_fewer : AtMost (term_count q) t (k - 1)
    walked_fewer = subst (λ (u : Facts). AtMost (term_count q) u (k - 1)) at (row_fewer q (order_of order) k s m most h i in_row)

    module _ (st : Struck q s m i) (limited : Bool) (w : Kind) (p : Facts) (told : WalksTo q order (k - 1) t limited w p) where
      pub walked_struck : is_refuted w ≡ true → Struck q s m (i + 1)
      walked_struck f = struck_next q ok s m i st (subst (NoHeap q) (sym at) (told.refuted (refuted_is w f)))

      pub walked_branch : is_refuted w ≡ false → WalksTo q order k s limited w p
      walked_branch f =
          record {
            refuted = λ g. absurd (true≢false (sym (ap is_refuted g) ∙ f));
            ends = λ g. walk_first q ok (order_of order) (order_full order o) k s known most m h i in_row st p
                (subst (λ (u : Facts). walk q (order_of order) (k - 1) u ≡ saturation p) (sym at) (told.ends g));
            gives_up = told.gives_up;
          }

  pub walked_all : (i : ℕ) → Struck q s m i → count_of r z ≤ i → (limited : Bool) (p : Facts) → WalksTo q order k s limited kind.Refuted p
  walked_all i st past limited p =
      record {
        refuted = λ f. struck_all q ok s known m app i st (omega (arith, row-length q n s l r x y z terms_are));
        ends = λ f. absurd (refuted_open f);
        gives_up = λ f. absurd (refuted_unknown f);
      }
