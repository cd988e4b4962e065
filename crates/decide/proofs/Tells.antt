-- What each return of the strategies says. The laws are those of the decision of a path, stated once of any pick.
use Prim.Native.Nat.{ℕ, ◌+◌, ◌-◌, ◌≤◌, ◌<◌}
use native.Mathlib.Omega.{arith}
use mathlib.Core.Path.{◌≡◌, sym, ap, ◌∙◌, subst}
use mathlib.Core.Bool.{true, false, true≢false}
use mathlib.Core.Option.{none, some}
use lib.ListN.{length, get_or}
use Rattle.logic.specs.Query.{Query, term_count}
use Rattle.logic.specs.Facts.{Facts, Line, clash}
use Rattle.logic.specs.Rules.{Rule, rules, triple, Move, move, applies, branch, branches, choose}
use Rattle.logic.specs.Decision.{HasHeap, NoHeap, Closes, Struck}
use Rattle.theory.proofs.Query.Tied.{Accepted}
use Rattle.theory.proofs.Paths.Applies.{has_link_range, applies_linked}
use Rattle.theory.proofs.Walks.Order.{rules_full}
use Rattle.theory.proofs.Calls.Decision.{Known, clash-none, saturated_heap, struck_next, struck_all, open_branch, branch_at, closed_known, closed_heap, heap_closed}
use Rattle.alternatives.specs.Alternatives.{count_of, alternative_at}
use Rattle.facts.specs.Path.{HasLink}
use Rattle.kinds.specs.Kinds.{is_refuted}
use Rattle.kinds.specs.declared.Kind.{Kind}
use Rattle.kinds.specs.declared.Kind.TheVariants as kind
use Rattle.plain_steps.proofs.Branches.{same_branch, row-length, row_at}
use Rattle.plain_steps.proofs.Cases.{refuted_open, refuted_unknown, open_unknown, refuted_is}
use Rattle.decide.specs.Tells.{Tells, Ends}

pub fewer_left : (k t : ℕ) → (k ≡ 0 → ⊥) → k ≡ t → k - 1 < t
fewer_left k t ne e = omega arith

-- a rule that applies does so by a link of the path
pub applied_linked : (n : ℕ) (s : Facts) (k : ℕ) (r : Rule) (x y z : ℕ) → applies n s (move k r (triple x y z)) ≡ true → HasLink s k
applied_linked n s k r x y z app =
    let l = has_link_range s.links k r (triple x y z) (applies_linked n s (move k r (triple x y z)) app) in
    (omega (arith, l), l.1)

-- of a strategy
module _ (q : Query) (s : Facts) where
  pub tells-refuted : NoHeap q s → Tells q s kind.Refuted
  tells-refuted free = record { refuted = λ e. free; has = λ e. absurd (refuted_open e) }

  pub tells_open : HasHeap q s → Tells q s kind.Open
  tells_open h = record { refuted = λ e. absurd (refuted_open (sym e)); has = λ e. h }

  pub tells_nothing : Tells q s kind.Unknown
  tells_nothing = record { refuted = λ e. absurd (refuted_unknown (sym e)); has = λ e. absurd (open_unknown (sym e)) }

  module _ (w : Facts) where
    pub ends_refuted : Tells q s kind.Refuted → Ends q s kind.Refuted w
    ends_refuted told = record { tells = told; shows = λ e. absurd (refuted_open e) }

    pub ends_open : Tells q s kind.Open → HasHeap q w → Ends q s kind.Open w
    ends_open told h = record { tells = told; shows = λ e. h }

    pub ends_nothing : Ends q s kind.Unknown w
    ends_nothing = record { tells = tells_nothing; shows = λ e. absurd (open_unknown (sym e)) }

    pub ends_as : (s' : Facts) (k : Kind) → Ends q s' k w → Tells q s k → Ends q s k w
    ends_as s' k ended told = record { tells = told; shows = ended.shows }

module _ {q : Query} (ok : Accepted q) (s t : Facts) (known : Known q s) (n : ℕ) (terms_are : n ≡ term_count q) (cl : Closes n s t) where
  closes : Closes (term_count q) s t
  closes = subst (λ (m : ℕ). Closes m s t) terms_are cl

  pub known_closed : Known q t
  known_closed = closed_known q ok s t known closes

  pub tells-clash : (l : Line) → clash q t ≡ some l → Tells q s kind.Refuted
  tells-clash l e = tells-refuted q s (λ h. clash-none q ok t known_closed l e (closed_heap q ok s t known closes h))

  pub ends_saturated : clash q t ≡ none → choose (term_count q) rules t ≡ none → Ends q s kind.Open t
  ends_saturated free idle = let h = saturated_heap q ok t known_closed rules rules_full free idle in ends_open q s t (tells_open q s (heap_closed q ok s t known closes h)) h

  module _ (k : ℕ) (r : Rule) (x y z : ℕ) (app : applies (term_count q) t (move k r (triple x y z)) ≡ true) where
    abbrev m : Move
    m = move k r (triple x y z)

    -- a branch of the closed path, whose arrays are p's
    module _ (p : Facts) (same : p ≡ t) (i : ℕ) (l : i < count_of r z) (u : Facts) (e : u ≡ (branch n p (alternative_at k n (p.graph k) r x y z i)).facts) where
      in_row : i < length (branches (term_count q) t m)
      in_row = omega (arith, row-length q n t k r x y z terms_are)

      at : get_or (branches (term_count q) t m) i t ≡ u
      at = sym (row_at q n t k r x y z terms_are i u l (same_branch p t same n k r x y z i u e))

      pub known-branch : Known q u
      known-branch = subst (Known q) at (branch_at q ok t known_closed m app i in_row)

      pub struck_more : Struck q t m i → (w : Kind) → Tells q u w → is_refuted w ≡ true → Struck q t m (i + 1)
      struck_more st w told f = struck_next q ok t m i st (subst (NoHeap q) (sym at) (told.refuted (refuted_is w f)))

      pub tells-branch : (w : Kind) → Tells q u w → is_refuted w ≡ false → Tells q s w
      tells-branch w told f =
          record {
            refuted = λ g. absurd (true≢false (sym (ap is_refuted g) ∙ f));
            has = λ g. heap_closed q ok s t known closes (open_branch q ok t known_closed m app i in_row (subst (HasHeap q) (sym at) (told.has g)));
          }

    pub tells_struck : (i : ℕ) → Struck q t m i → count_of r z ≤ i → Tells q s kind.Refuted
    tells_struck i st past =
        tells-refuted q s (λ h. struck_all q ok t known_closed m app i st (omega (arith, row-length q n t k r x y z terms_are)) (closed_heap q ok s t known closes h))
