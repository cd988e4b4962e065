-- What each return of the search says.
use Rattle.std.specs.Prelude.{Option, IfSome}
use Prim.Native.Nat.{ℕ, ◌+◌, ◌-◌, ◌≤◌, ◌<◌}
use native.Mathlib.Omega.{arith}
use mathlib.Core.Path.{◌≡◌, sym, ap, ◌∙◌, subst}
use mathlib.Core.Logic.{⊎_elim}
use mathlib.Core.Bool.{true, false, true≢false}
use mathlib.Core.Option.{none}
use lib.ListN.{length, get_or}
use Rattle.logic.specs.Query.{Query, term_count}
use Rattle.logic.specs.Facts.{Facts, clash}
use Rattle.logic.specs.Rules.{Rule, rules, triple, Move, move, Fact, applies, branch, branches, choose}
use Rattle.logic.specs.Decision.{HasHeap, NoHeap, Closes}
use Rattle.theory.proofs.Basics.Compare.{eq_cases}
use Rattle.theory.proofs.Query.Tied.{Accepted}
use Rattle.theory.proofs.Paths.Applies.{has_link_range, applies_linked}
use Rattle.theory.proofs.Walks.Order.{rules_full}
use Rattle.theory.proofs.Calls.Decision.{Known, saturated_heap, open_branch, branch_at, closed_known, heap_closed}
use Rattle.alternatives.specs.Alternatives.{count_of, alternative_at}
use Rattle.facts.specs.Path.{path_of, HasLink}
use Rattle.facts.specs.declared.Facts as code
use Rattle.plain_steps.proofs.Branches.{row-length, row_at}
use Rattle.covering.specs.Covers.{Covers}
use Rattle.nogoods.specs.Nogoods.{Nogood, Excludes}
use Rattle.nogoods.proofs.Nogoods.{bounded, nogood_covered, excludes_covered, nogood_path}
use Rattle.backjumping.specs.Finds.{Carries, Finds}
use Rattle.backjumping.specs.declared.Answer.{Answer}
use Rattle.backjumping.specs.declared.Answer.TheVariants as answer

pub fewer_left : (k t : ℕ) → (k ≡ 0 → ⊥) → k ≡ t → k - 1 < t
fewer_left k t ne e = omega arith

-- a rule that applies does so by a link of the path
pub applied_linked : (n : ℕ) (s : Facts) (k : ℕ) (r : Rule) (x y z : ℕ) → applies n s (move k r (triple x y z)) ≡ true → HasLink s k
applied_linked n s k r x y z app =
    let l = has_link_range s.links k r (triple x y z) (applies_linked n s (move k r (triple x y z)) app) in
    (omega (arith, l), l.1)

module _ (q : Query) (s : Facts) where
  pub finds_carried : (tried : Option code.Facts) → IfSome tried (λ d. Nogood q (path_of d)) → (r : Answer) → Carries s tried r → Finds q s r
  finds_carried tried free (answer.Refuted f) c = c q free
  finds_carried tried free (answer.Open f) c = absurd c
  finds_carried tried free answer.Unknown c = c

  -- the nogood that the path holds leaves it no heap
  pub no_heap : Accepted q → Known q s → s.rep 0 ≡ 0 → (d : code.Facts) → Finds q s (answer.Refuted d) → NoHeap q s
  no_heap ok known unmoved d (free, cov) = nogood_path q ok s known unmoved (nogood_covered q s (path_of d) (bounded d) cov free)

-- one alternative more is excluded
pub excludes_more : (q : Query) (w d : code.Facts) (f : ℕ → Fact) (at : ℕ) → Covers (path_of w) (path_of d) → ((i : ℕ) → i < at → Excludes q (path_of d) (f i)) → Excludes q (path_of w) (f at) → (i : ℕ) → i < at + 1 → Excludes q (path_of w) (f i)
excludes_more q w d f at cov before here i l =
    ⊎_elim
    (λ e. subst (λ (j : ℕ). Excludes q (path_of w) (f j)) (sym e) here)
    (λ ne. excludes_covered q (path_of w) (path_of d) (bounded d) cov (f i) (before i (omega (arith, ne))))
    (eq_cases i at)

module _ {q : Query} (ok : Accepted q) (s t : Facts) (known : Known q s) (n : ℕ) (terms_are : n ≡ term_count q) (cl : Closes n s t) where
  closes : Closes (term_count q) s t
  closes = subst (λ (m : ℕ). Closes m s t) terms_are cl

  pub known_closed : Known q t
  known_closed = closed_known q ok s t known closes

  pub finds_saturated : clash q t ≡ none → choose (term_count q) rules t ≡ none → HasHeap q s × HasHeap q t
  finds_saturated free idle = let h = saturated_heap q ok t known_closed rules rules_full free idle in (heap_closed q ok s t known closes h, h)

  module _ (k : ℕ) (r : Rule) (x y z : ℕ) (app : applies (term_count q) t (move k r (triple x y z)) ≡ true) where
    abbrev m : Move
    m = move k r (triple x y z)

    -- a branch of the closed path
    module _ (i : ℕ) (l : i < count_of r z) (u : Facts) (e : u ≡ (branch n t (alternative_at k n (t.graph k) r x y z i)).facts) where
      in_row : i < length (branches (term_count q) t m)
      in_row = omega (arith, row-length q n t k r x y z terms_are)

      at : get_or (branches (term_count q) t m) i t ≡ u
      at = sym (row_at q n t k r x y z terms_are i u l e)

      pub known-branch : Known q u
      known-branch = subst (Known q) at (branch_at q ok t known_closed m app i in_row)

      pub open_here : HasHeap q u → HasHeap q s
      open_here h = heap_closed q ok s t known closes (open_branch q ok t known_closed m app i in_row (subst (HasHeap q) (sym at) h))
