-- The first branch with a heap, and the walk that goes into it.
use Prim.Native.Nat.{ℕ, suc, ◌+◌, ◌-◌, ◌≤◌, ◌<◌}
use native.Mathlib.Omega.{arith}
use mathlib.Core.Path.{◌≡◌, refl, sym, ap, subst}
use mathlib.Core.Bool.{true, false}
use mathlib.Core.List.Memᴰ
use mathlib.Core.List.{List, [], ◌∷◌, Memᴰ}
use lib.ListN.{length, get_or}
use Rattle.logic.specs.Query.{Query, term_count, is_order}
use Rattle.logic.specs.Facts.{Facts, Line, Joined}
use Rattle.logic.specs.Rules.{Rule, triple, Move, move, applies, branch, branches}
use Rattle.logic.specs.Walk.{clashing, applying, look, order_of, walk, saturation}
use Rattle.logic.specs.Steps.{one_more, AtMost}
use Rattle.logic.specs.Decision.{HasHeap, NoHeap, Reachable, Struck}
use Rattle.facts.specs.Path.{path_of}
use Rattle.facts.specs.declared.Facts as code
use Rattle.theory.proofs.Query.Tied.{Accepted}
use Rattle.theory.proofs.Walks.Order.{order_full}
use Rattle.theory.proofs.Walks.Derives.{seen-applying, seen-clashing}
use Rattle.theory.proofs.Calls.Decision.{Known, reachable_known, clash-none, heap_branch, struck_next, last_open, walk_first}
use Rattle.theory.proofs.Basics.Count.{get_d_mem}
use Rattle.alternatives.specs.Alternatives.{count_of, alternative_at}
use Rattle.covering.specs.Covers.{Covers}
use Rattle.covering.proofs.Covered.{covered_heap}
use Rattle.plain_steps.proofs.Branches.{row-length, row_at}
use Rattle.plain_steps.proofs.Turns.{row_fewer}
use Rattle.decide.specs.Tells.{Decides}
use Rattle.open_path.specs.First.{FirstOpen}

mem-some : {A : Type 0} (xs : List A) (x : A) → Memᴰ x xs → 0 < length xs
mem-some [] x m = absurd (Memᴰ.not-nil m)
mem-some (y ∷ ys) x m = omega arith

-- each branch of a rule that applies is one that a walk can reach
reach-branch : (q : Query) (s : Facts) (m : Move) → Reachable q s → applies (term_count q) s m ≡ true → (i : ℕ) →
    i < length (branches (term_count q) s m) → Reachable q (get_or (branches (term_count q) s m) i s)
reach-branch q s m (k, steps) app i l = (suc k, one_more steps (record { rule_move = m; applicable = app; branch = get_d_mem (branches (term_count q) s m) i s l }))

-- a path with a heap where our walk from s₀ goes on with k of its k₀ steps left: it ends where that one does
pub record Comes (q : Query) (order : List ℕ) (k₀ : ℕ) (s₀ : Facts) (k : ℕ) (s : Facts) : Type 0 where
  pub reach : Reachable q s
  pub most : AtMost (term_count q) s k
  pub has_heap : HasHeap q s
  pub ends : (u : Facts) → walk q (order_of order) k s ≡ saturation u → walk q (order_of order) k₀ s₀ ≡ saturation u

-- a branch of a path is one of its copy
pub branch_from : (j : Joined) (p t : code.Facts) → p ≡ t → (n l : ℕ) (r : Rule) (x y z i : ℕ) →
    j ≡ branch n (path_of p) (alternative_at l n ((path_of p).graph l) r x y z i) → j ≡ branch n (path_of t) (alternative_at l n ((path_of t).graph l) r x y z i)
branch_from j p t same n l r x y z i e = subst (λ (d : code.Facts). j ≡ branch n (path_of d) (alternative_at l n ((path_of d).graph l) r x y z i)) same e

-- a path with a heap has no clash
pub never_clashes : {q : Query} (order : List ℕ) → Accepted q → (s : Facts) → Reachable q s → HasHeap q s → (l : Line) → look q (order_of order) s ≡ clashing l → ⊥
never_clashes {q} order ok s reach has l h = clash-none q ok s (reachable_known q ok s reach) l (seen-clashing q (order_of order) s h) has

module _ {q : Query} (order : List ℕ) (ok : Accepted q) (k : ℕ) (s : Facts) (reach : Reachable q s) (most : AtMost (term_count q) s k) (n : ℕ)
    (terms_are : n ≡ term_count q) (l : ℕ) (r : Rule) (x y z : ℕ) (h : look q (order_of order) s ≡ applying (move l r (triple x y z))) where
  known : Known q s
  known = reachable_known q ok s reach

  abbrev m : Move
  m = move l r (triple x y z)

  app : applies (term_count q) s m ≡ true
  app = (seen-applying q (order_of order) s h).1

  module _ (i : ℕ) (here : i < count_of r z) (j : Joined) (e : j ≡ branch n s (alternative_at l n (s.graph l) r x y z i)) where
    in_row : i < length (branches (term_count q) s m)
    in_row = omega (arith, row-length q n s l r x y z terms_are)

    at : get_or (branches (term_count q) s m) i s ≡ j.facts
    at = sym (row_at q n s l r x y z terms_are i j.facts here (ap (λ (v : Joined). v.facts) e))

    pub open_reach : Reachable q j.facts
    open_reach = subst (Reachable q) at (reach-branch q s m reach app i in_row)

    pub open_fewer : AtMost (term_count q) j.facts (k - 1)
    open_fewer = subst (λ (t : Facts). AtMost (term_count q) t (k - 1)) at (row_fewer q (order_of order) k s m most h i in_row)

    pub open_struck : Struck q s m i → Decides q j.facts false → Struck q s m (i + 1)
    open_struck st d = struck_next q ok s m i st (subst (NoHeap q) (sym at) (d.no_right refl))

    pub open_here : Struck q s m i → Decides q j.facts true → FirstOpen q s m j.facts
    open_here st d = record { place = i; in_row = in_row; struck = st; branch_at = at; has_heap = d.yes_right refl }

    pub open_covered : Struck q s m i → (w : Facts) → HasHeap q w → Covers w j.facts → FirstOpen q s m j.facts
    open_covered st w has c =
        record {
          place = i;
          in_row = in_row;
          struck = st;
          branch_at = at;
          has_heap = covered_heap q ok w j.facts (reachable_known q ok j.facts open_reach) c has;
        }

    pub open_last : Struck q s m i → count_of r z ≤ i + 1 → HasHeap q s → FirstOpen q s m j.facts
    open_last st last has = record {
      place = i;
      in_row = in_row;
      struck = st;
      branch_at = at;
      has_heap = subst (HasHeap q) at (last_open q ok s known m app i st (omega (arith, row-length q n s l r x y z terms_are)) has);
    }

  -- a path with a heap has a branch
  pub some-branch : HasHeap q s → 0 < count_of r z
  some-branch has = let (t, mem, has') = heap_branch q ok s known m app has in omega (arith, mem-some (branches (term_count q) s m) t mem, row-length q n s l r x y z terms_are)

  -- the walk goes there
  module _ (t : Facts) (f : FirstOpen q s m t) where
    first_reach : Reachable q t
    first_reach = subst (Reachable q) f.branch_at (reach-branch q s m reach app f.place f.in_row)

    first_fewer : AtMost (term_count q) t (k - 1)
    first_fewer = subst (λ (u : Facts). AtMost (term_count q) u (k - 1)) f.branch_at (row_fewer q (order_of order) k s m most h f.place f.in_row)

    first_ends : is_order order ≡ true → (u : Facts) → walk q (order_of order) (k - 1) t ≡ saturation u → walk q (order_of order) k s ≡ saturation u
    first_ends o u e = walk_first q ok (order_of order) (order_full order o) k s known most m h f.place f.in_row f.struck u
        (subst (λ (v : Facts). walk q (order_of order) (k - 1) v ≡ saturation u) (sym f.branch_at) e)

    pub comes_on : is_order order ≡ true → (k₀ : ℕ) (s₀ : Facts) → Comes q order k₀ s₀ k s → Comes q order k₀ s₀ (k - 1) t
    comes_on o k₀ s₀ c = record { reach = first_reach; most = first_fewer; has_heap = f.has_heap; ends = λ u e. c.ends u (first_ends o u e) }
