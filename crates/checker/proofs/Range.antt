-- Rule steps from the start: how many are left at a path, and that the numbers of a rule that applies there are terms, and its link one of the
-- path's.
use Prim.Native.Nat.{ℕ, suc, ◌-◌, ◌≤◌}
use native.Mathlib.Omega.{arith}
use mathlib.Core.Path.{◌≡◌, subst}
use mathlib.Core.Bool.{true}
use mathlib.Core.List.{Memᴰ}
use Rattle.logic.specs.Query.{Query, term_count}
use Rattle.logic.specs.Facts.{Facts, start}
use Rattle.logic.specs.Rules.{Rule, Triple, triple, Move, move, Fact, alternatives, applies, add, branches}
use Rattle.logic.specs.Walk.{limit}
use Rattle.logic.specs.Steps.{Step, Steps, at_first, one_more}
use Rattle.theory.proofs.Basics.Search.{map_intro}
use Rattle.theory.proofs.Query.Tied.{Accepted}
use Rattle.theory.proofs.Paths.Invariant.{Invariant, start_invariant, branch_invariant}
use Rattle.theory.proofs.Paths.Applies.{has_link_range, applies_linked}
use Rattle.theory.proofs.Walks.Gains.{applies-step}
use Rattle.theory.proofs.Walks.Limit.{start_at_most}
use Rattle.facts.specs.Path.{HasLink}
use Rattle.checking.proofs.Numbers.{move-numbers}
use Rattle.checker.specs.Ahead.{Ahead}

module _ (q : Query) (ok : Accepted q) where
  steps_invariant : {k : ℕ} {s : Facts} → Steps (term_count q) (start q) k s → Invariant q s
  steps_invariant at_first = start_invariant q ok
  steps_invariant (one_more {s' = s'} {s'' = s''} steps step) = branch_invariant q s' step.rule_move (steps_invariant steps) step.applicable s'' step.branch

  module _ (s : Facts) (left : ℕ) (ahead : Ahead q s left) (m : Move) (app : applies (term_count q) s m ≡ true) where
    pub ahead-some : 1 ≤ left
    ahead-some =
        let (s', step) = applies-step (term_count q) s m app in
        let l = start_at_most q ok (suc (limit q - left)) s' (one_more ahead.led step) in
        let u = ahead.some in
        omega arith

    pub ahead_next : (c : Fact) → Memᴰ c (alternatives (term_count q) s.graph m) → Ahead q (add (term_count q) s c) (left - 1)
    unfolding branches
    ahead_next c mem =
        let e : suc (limit q - left) ≡ limit q - (left - 1) = (let l = ahead-some in let u = ahead.some in omega arith) in
        let u = ahead.some in
        let step : Step (term_count q) s (add (term_count q) s c) = record { rule_move = m; applicable = app; branch = map_intro (add (term_count q) s) c mem } in
        record {
          some = omega arith;
          led = subst (λ (k : ℕ). Steps (term_count q) (start q) k (add (term_count q) s c)) e (one_more ahead.led step);
        }

  pub ahead_numbers : (s : Facts) (left : ℕ) → Ahead q s left → (i : ℕ) (r : Rule) (x y z : ℕ) → applies (term_count q) s (move i r (triple x y z)) ≡ true → (x ≤ 16) × (y ≤ 16) × (z ≤ 16)
  ahead_numbers s left ahead i r x y z app =
      let l = move-numbers (term_count q) s (steps_invariant ahead.led).sane i r x y z app in
      let t = ok.term_count_lem in
      (omega arith, omega arith, omega arith)

  pub ahead_linked : (s : Facts) (i : ℕ) (r : Rule) (t : Triple) → applies (term_count q) s (move i r t) ≡ true → HasLink s i
  ahead_linked s i r t app =
      let l = has_link_range s.links i r t (applies_linked (term_count q) s (move i r t) app) in
      (omega (arith, l.0), l.1)

  pub ahead-start : (k : ℕ) → k ≡ limit q → Ahead q (start q) k
  ahead-start k e =
      let z : 0 ≡ limit q - k = omega arith in
      record { some = omega arith; led = subst (λ (j : ℕ). Steps (term_count q) (start q) j (start q)) z at_first }
