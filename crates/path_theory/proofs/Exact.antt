-- Paths are exact: a run comes to a check, in a state, exactly if a path comes to it whose facts hold at the start, and the state is the one at its point.
use Prim.Native.Nat.{ℕ, zero, suc, ◌≤◌, ◌<◌}
use native.Mathlib.Omega.{arith}
use mathlib.Core.Path.{◌≡◌, refl, sym, ap, ◌∙◌, subst}
use mathlib.Core.Logic.{◌⊎◌, ◌↔◌, ⊎_elim, inl, inr}
use mathlib.Core.Bool.{Bool, true, false, not, cond, false≢true}
use mathlib.Core.List.{List, [], ◌∷◌, ◌++◌}
use lib.Dec.{eqb, ltb}
use lib.ListN.{length, get_or, drop}
use lib.Seq.{drop-cons}
use Rattle.logic.specs.Search.{all, ◌and◌}
use Rattle.theory.proofs.Basics.Search.{bool_cases, and_left, and_right, and_intro}
use Rattle.theory.proofs.Basics.Compare.{ltb-true, ltb_intro, le_cases}
use Rattle.routine_logic.specs.Syntax.{Term, Formula, always, never, equal, unequal, reaches, between, flag, negation}
use Rattle.routine_logic.specs.Syntax.{both, either, implies, same, forall, Place, Clause, Code, end, assign, assign_link}
use Rattle.routine_logic.specs.Syntax.{assign_flag, havoc, assume, assert, cover, branch, loop, leave, break_out}
use Rattle.routine_logic.specs.State.{State, null_node, with_variable, with_link, with_flag}
use Rattle.routine_logic.specs.Formulas.{node, base_node, follow, holds, same_truth}
use Rattle.routine_logic.specs.Runs.{Kind, null_of, asserted, covered, entry, Check, can_fail, Event, met, gave, checked, Events, checking}
use Rattle.routine_logic.specs.Runs.{Now, Go, dereferenced, dereferenced_in, reading, testing, clauses, giving, run, entering}
use Rattle.path_theory.specs.Points.{Point, name_of, named, linked, marked, havocked, node_of, state_at}
use Rattle.path_theory.specs.Paths.{Fact, says, gives, fact_holds, Trail, further, saying, Case, Cases, Follow, asking, not_null, reading_paths, deciding, testing_paths, clauses_paths, paths}
use Rattle.path_theory.proofs.States.{name_node, named_state, havocked_state, linked_state, marked_state}

drop_all : (k : ℕ) (vs : List ℕ) → length vs ≤ k → drop k vs ≡ []
drop_all zero [] l = refl
drop_all zero (v ∷ vs) l = absurd (omega (arith, l))
drop_all (suc k) [] l = refl
drop_all (suc k) (v ∷ vs) l = drop_all k vs (omega (arith, l))

-- a check comes to pass, or not, in a state: among events; among cases whose facts hold at the start
module _ (s : State) (nodes : List ℕ) (c : Check) (b : Bool) (at : State) where
  unfoldable pub Meets : Events → Type 0
  Meets [] = ⊥
  Meets (met l ∷ es) = Meets es
  Meets (gave l v ∷ es) = Meets es
  Meets (checked d a l t ∷ es) = ((d ≡ c) × (a ≡ b) × (t ≡ at)) ⊎ Meets es

  abbrev pub SeesOne : Case → Type 0
  SeesOne x = (x.check ≡ c) × (x.passes ≡ b) × (all (fact_holds s nodes) x.trail.facts ≡ true) × (state_at s nodes x.trail.point ≡ at)

  unfoldable pub Sees : Cases → Type 0
  Sees [] = ⊥
  Sees (x ∷ xs) = SeesOne x ⊎ Sees xs

  sees_append : (xs ys : Cases) → Sees (xs ++ ys) ↔ (Sees xs ⊎ Sees ys)
  unfolding Sees
  sees_append [] ys = (λ h. inr h, ⊎_elim (λ z. absurd z) (λ h. h))
  sees_append (x ∷ xs) ys =
      let r = sees_append xs ys in (
        ⊎_elim (λ h. inl (inl h)) (λ h. ⊎_elim (λ k. inl (inr k)) (λ k. inr k) (r.0 h)),
        ⊎_elim (⊎_elim (λ h. inl h) (λ h. inr (r.1 (inl h)))) (λ h. inr (r.1 (inr h))),
      )

module _ (s : State) (nodes : List ℕ) where
  -- what a path says holds
  abbrev pub Hold : List Fact → Type 0
  Hold fs = all (fact_holds s nodes) fs ≡ true

  -- a run and paths come to the same
  abbrev pub Exactly : Events → Cases → Type 0
  Exactly es xs = (c : Check) (b : Bool) (at : State) → Meets s nodes c b at es ↔ Sees s nodes c b at xs

  -- paths only say more
  abbrev pub Grows : Follow → Type 0
  Grows g = (t : Trail) (c : Check) (b : Bool) (at : State) → Sees s nodes c b at (g t) → Hold t.facts

  -- where a run is at a point
  abbrev pub now_at : Point → Now
  now_at p = record { state = state_at s nodes p; nodes = drop p.havocs nodes }

  abbrev pub at_point : Point → List Fact → Trail
  at_point p fs = record { point = p; facts = fs }

  -- a run from a point and the paths from there
  abbrev pub Exact : Go → Follow → Type 0
  Exact g h = (p : Point) (fs : List Fact) → Hold fs → Exactly (g (now_at p)) (h (at_point p fs))

  pub nothing : (xs : Cases) → ((c : Check) (b : Bool) (at : State) → Sees s nodes c b at xs → ⊥) → Exactly [] xs
  unfolding Meets
  nothing xs h c b at = (λ z. absurd z, λ z. absurd (h c b at z))

  pub no_case : (c : Check) (b : Bool) (at : State) → Sees s nodes c b at [] → ⊥
  unfolding Sees
  no_case c b at h = h

  -- the facts with one more
  hold_cons : (f : Fact) (fs : List Fact) → Hold (f ∷ fs) ↔ ((fact_holds s nodes f ≡ true) × Hold fs)
  unfolding all
  hold_cons f fs = (λ h. (and_left _ _ h, and_right (fact_holds s nodes f) _ h), λ h. and_intro h.0 h.1)

  -- a formula says what it says at a point
  says-own : (p : Point) (f : Formula) (b : Bool) → holds (state_at s nodes p) [] f ≡ b → fact_holds s nodes (says b p f) ≡ true
  unfolding fact_holds same_truth
  says-own p f true e = e
  says-own p f false e = ap not e

  says_other : (p : Point) (f : Formula) (b : Bool) → holds (state_at s nodes p) [] f ≡ not b → fact_holds s nodes (says b p f) ≡ true → ⊥
  unfolding fact_holds same_truth
  says_other p f true e h = false≢true (sym e ∙ h)
  says_other p f false e h = false≢true (sym (ap not e) ∙ h)

  -- what a path says otherwise than it is, no run comes to
  untrue : (g : Follow) → Grows g → (p : Point) (fs : List Fact) (f : Formula) (a : Bool) → holds (state_at s nodes p) [] f ≡ not a →
      (c : Check) (b : Bool) (at : State) → Sees s nodes c b at (g (at_point p (says a p f ∷ fs))) → ⊥
  untrue g grows p fs f a e c b at h = says_other p f a e ((hold_cons (says a p f) fs).0 (grows (at_point p (says a p f ∷ fs)) c b at h)).0

  cond_exact : (can : Bool) (es : Events) (xs : Cases) → Exactly es xs → Exactly (cond can [] es) (cond can [] xs)
  unfolding Meets Sees
  cond_exact true es xs h c b at = (λ z. z, λ z. z)
  cond_exact false es xs h c b at = h c b at

  cond-none : (can : Bool) (xs : Cases) (c : Check) (b : Bool) (at : State) → (Sees s nodes c b at xs → ⊥) → Sees s nodes c b at (cond can [] xs) → ⊥
  unfolding Sees
  cond-none true xs c b at h z = z
  cond-none false xs c b at h z = h z

  -- A check, whatever is behind it
  module _ (number : ℕ) (kind : Kind) (f : Formula) (line : ℕ) (p : Point) (fs : List Fact) (hold : Hold fs) (next : Follow) (rest : Events) (grows : Grows next)
      (behind : (a : Bool) → holds (state_at s nodes p) [] f ≡ a → Exactly rest (next (at_point p (says a p f ∷ fs)))) where
    passing_case : holds (state_at s nodes p) [] f ≡ true →
        Exactly (checking number kind true line (state_at s nodes p) rest) (asking number kind f (at_point p fs) next)
    unfolding checking asking Meets Sees
    passing_case e c b at =
        let N : Cases = next (at_point p (says true p f ∷ fs)) in
        let M : Cases = next (at_point p (says false p f ∷ fs)) in
        let parts = sees_append s nodes c b at N (cond (can_fail kind) [] M) in (
          ⊎_elim
              (λ h. inl (h.0, h.1, (hold_cons (says true p f) fs).1 (says-own p f true e, hold), h.2))
              (λ h. inr (inr (parts.1 (inl ((behind true e c b at).0 h))))),
          ⊎_elim
              (λ h. inl (h.0, h.1, h.3))
              (⊎_elim
              (λ h. absurd (says_other p f false e ((hold_cons (says false p f) fs).0 h.2).0))
              (λ h. ⊎_elim
              (λ k. inr ((behind true e c b at).1 k))
              (λ k. absurd (cond-none (can_fail kind) M c b at (untrue next grows p fs f false e c b at) k))
              (parts.0 h))),
        )

    failing_case : holds (state_at s nodes p) [] f ≡ false →
        Exactly (checking number kind false line (state_at s nodes p) rest) (asking number kind f (at_point p fs) next)
    unfolding checking asking Meets Sees
    failing_case e c b at =
        let N : Cases = next (at_point p (says true p f ∷ fs)) in
        let M : Cases = next (at_point p (says false p f ∷ fs)) in
        let parts = sees_append s nodes c b at N (cond (can_fail kind) [] M) in
        let onward = cond_exact (can_fail kind) rest M (behind false e) c b at in (
          ⊎_elim
              (λ h. inr (inl (h.0, h.1, (hold_cons (says false p f) fs).1 (says-own p f false e, hold), h.2)))
              (λ h. inr (inr (parts.1 (inr (onward.0 h))))),
          ⊎_elim
              (λ h. absurd (says_other p f true e ((hold_cons (says true p f) fs).0 h.2).0))
              (⊎_elim
              (λ h. inl (h.0, h.1, h.3))
              (λ h. ⊎_elim (λ k. absurd (untrue next grows p fs f true e c b at k)) (λ k. inr (onward.1 k)) (parts.0 h))),
        )

    pub asking_exact : Exactly (checking number kind (holds (state_at s nodes p) [] f) line (state_at s nodes p) rest) (asking number kind f (at_point p fs) next)
    asking_exact = go (holds (state_at s nodes p) [] f) refl
      where
        go : (v : Bool) → holds (state_at s nodes p) [] f ≡ v → Exactly (checking number kind v line (state_at s nodes p) rest) (asking number kind f (at_point p fs) next)
        go true e = passing_case e
        go false e = failing_case e

  asking-grows : (number : ℕ) (kind : Kind) (f : Formula) (next : Follow) → Grows next → Grows (λ t. asking number kind f t next)
  unfolding asking Sees
  asking-grows number kind f next grows t c b at =
      let p : Point = t.point in
      let fs : List Fact = t.facts in
      let T : Trail = at_point p (says true p f ∷ fs) in
      let F : Trail = at_point p (says false p f ∷ fs) in
      let M : Cases = next F in
      ⊎_elim
      (λ h. ((hold_cons (says true p f) fs).0 h.2).1)
      (⊎_elim
      (λ h. ((hold_cons (says false p f) fs).0 h.2).1)
      (λ h. ⊎_elim
      (λ k. ((hold_cons (says true p f) fs).0 (grows T c b at k)).1)
      (λ k. ((hold_cons (says false p f) fs).0 (grows F c b at (cond-some (can_fail kind) M c b at k))).1)
      ((sees_append s nodes c b at (next T) (cond (can_fail kind) [] M)).0 h)))
    where
      cond-some : (can : Bool) (xs : Cases) (c : Check) (b : Bool) (at : State) → Sees s nodes c b at (cond can [] xs) → Sees s nodes c b at xs
      cond-some true xs c b at z = absurd z
      cond-some false xs c b at z = z

  -- Terms that are read

  reading-grows : (p : Place) (us : List Term) (next : Follow) → Grows next → Grows (λ t. reading_paths p us t next)
  unfolding reading_paths
  reading-grows p [] next grows = grows
  reading-grows p (u ∷ us) next grows = asking-grows p.number (null_of u) (not_null u) (λ t. reading_paths p us t next) (reading-grows p us next grows)

  pub reading_exact : (q : Place) (us : List Term) (p : Point) (fs : List Fact) → Hold fs → (next : Follow) (rest : Events) → Grows next →
      ((gs : List Fact) → Hold gs → Exactly rest (next (at_point p gs))) →
      Exactly (reading q (state_at s nodes p) us rest) (reading_paths q us (at_point p fs) next)
  unfolding reading_paths reading holds node base_node follow
  reading_exact q [] p fs hold next rest grows behind = behind fs hold
  reading_exact q (u ∷ us) p fs hold next rest grows behind =
      asking_exact q.number (null_of u) (not_null u) q.line p fs hold (λ t. reading_paths q us t next) (reading q (state_at s nodes p) us rest)
      (reading-grows q us next grows)
      (λ a e. reading_exact q us p (says a p (not_null u) ∷ fs) ((hold_cons (says a p (not_null u)) fs).1 (says-own p (not_null u) a e, hold)) next rest grows behind)

  -- Conditions

  -- both values of an atom, of which one is its own
  either_exact : (f : Formula) (p : Point) (fs : List Fact) → Hold fs → (g : Bool → Events) (next : Bool → Follow) → ((b : Bool) → Grows (next b)) →
      ((b : Bool) (gs : List Fact) → Hold gs → Exactly (g b) (next b (at_point p gs))) →
      Exactly (g (holds (state_at s nodes p) [] f)) (next true (at_point p (says true p f ∷ fs)) ++ next false (at_point p (says false p f ∷ fs)))
  either_exact f p fs hold g next grows behind c b at = go (holds (state_at s nodes p) [] f) refl
    where
      T : Cases
      T = next true (at_point p (says true p f ∷ fs))

      F : Cases
      F = next false (at_point p (says false p f ∷ fs))

      parts : Sees s nodes c b at (T ++ F) ↔ (Sees s nodes c b at T ⊎ Sees s nodes c b at F)
      parts = sees_append s nodes c b at T F

      own : (v : Bool) → holds (state_at s nodes p) [] f ≡ v → Exactly (g v) (next v (at_point p (says v p f ∷ fs)))
      own v e = behind v (says v p f ∷ fs) ((hold_cons (says v p f) fs).1 (says-own p f v e, hold))

      go : (v : Bool) → holds (state_at s nodes p) [] f ≡ v → Meets s nodes c b at (g v) ↔ Sees s nodes c b at (T ++ F)
      go true e = (
        λ h. parts.1 (inl ((own true e c b at).0 h)),
        λ h. ⊎_elim (λ k. (own true e c b at).1 k) (λ k. absurd (untrue (next false) (grows false) p fs f false e c b at k)) (parts.0 h),
      )
      go false e = (
        λ h. parts.1 (inr ((own false e c b at).0 h)),
        λ h. ⊎_elim (λ k. absurd (untrue (next true) (grows true) p fs f true e c b at k)) (λ k. (own false e c b at).1 k) (parts.0 h),
      )

  either_grows : (f : Formula) (next : Bool → Follow) → ((b : Bool) → Grows (next b)) → Grows (λ t. next true (saying t true f) ++ next false (saying t false f))
  either_grows f next grows t c b at h =
      ⊎_elim
      (λ k. ((hold_cons (says true t.point f) t.facts).0 (grows true (saying t true f) c b at k)).1)
      (λ k. ((hold_cons (says false t.point f) t.facts).0 (grows false (saying t false f) c b at k)).1)
      ((sees_append s nodes c b at (next true (saying t true f)) (next false (saying t false f))).0 h)

  deciding_exact : (q : Place) (f : Formula) (p : Point) (fs : List Fact) → Hold fs → (g : Bool → Events) (next : Bool → Follow) → ((b : Bool) → Grows (next b)) →
      ((b : Bool) (gs : List Fact) → Hold gs → Exactly (g b) (next b (at_point p gs))) →
      Exactly (reading q (state_at s nodes p) (dereferenced_in f) (g (holds (state_at s nodes p) [] f))) (deciding q f (at_point p fs) next)
  unfolding deciding
  deciding_exact q f p fs hold g next grows behind =
      reading_exact q (dereferenced_in f) p fs hold (λ t. next true (saying t true f) ++ next false (saying t false f)) _ (either_grows f next grows)
      (λ gs hold'. either_exact f p gs hold' g next grows behind)

  deciding-grows : (q : Place) (f : Formula) (next : Bool → Follow) → ((b : Bool) → Grows (next b)) → Grows (λ t. deciding q f t next)
  unfolding deciding
  deciding-grows q f next grows = reading-grows q (dereferenced_in f) _ (either_grows f next grows)

  cond-grows : (b : Bool) (g h : Follow) → Grows g → Grows h → Grows (λ t. cond b (g t) (h t))
  cond-grows true g h k l = k
  cond-grows false g h k l = l

  pub testing-grows : (q : Place) (f : Formula) (next : Bool → Follow) → ((b : Bool) → Grows (next b)) → Grows (λ t. testing_paths q f t next)
  unfolding testing_paths
  testing-grows q (negation f) next grows = testing-grows q f (λ b. next (not b)) (λ b. grows (not b))
  testing-grows q (both f g) next grows =
      testing-grows q f _ (λ b. cond-grows b (λ t. testing_paths q g t next) (next false) (testing-grows q g next grows) (grows false))
  testing-grows q (either f g) next grows =
      testing-grows q f _ (λ b. cond-grows b (next true) (λ t. testing_paths q g t next) (grows true) (testing-grows q g next grows))
  testing-grows q (implies f g) next grows =
      testing-grows q f _ (λ b. cond-grows b (λ t. testing_paths q g t next) (next true) (testing-grows q g next grows) (grows true))
  testing-grows q (same f g) next grows =
      testing-grows q f _ (λ b. testing-grows q g (λ c. next (same_truth b c)) (λ c. grows (same_truth b c)))
  testing-grows q always next grows = grows true
  testing-grows q never next grows = grows false
  testing-grows q (equal u v) next grows = deciding-grows q (equal u v) next grows
  testing-grows q (unequal u v) next grows = deciding-grows q (unequal u v) next grows
  testing-grows q (reaches i u v) next grows = deciding-grows q (reaches i u v) next grows
  testing-grows q (between i u v w) next grows = deciding-grows q (between i u v w) next grows
  testing-grows q (flag j u) next grows = deciding-grows q (flag j u) next grows
  testing-grows q (forall f) next grows = either_grows (forall f) next grows

  pub testing_exact : (q : Place) (f : Formula) (p : Point) (fs : List Fact) → Hold fs → (g : Bool → Events) (next : Bool → Follow) → ((b : Bool) → Grows (next b)) →
      ((b : Bool) (gs : List Fact) → Hold gs → Exactly (g b) (next b (at_point p gs))) →
      Exactly (testing q (state_at s nodes p) f g) (testing_paths q f (at_point p fs) next)
  unfolding testing testing_paths
  testing_exact q (negation f) p fs hold g next grows behind =
      testing_exact q f p fs hold (λ b. g (not b)) (λ b. next (not b)) (λ b. grows (not b)) (λ b. behind (not b))
  testing_exact q (both f f') p fs hold g next grows behind =
      testing_exact q f p fs hold _ (λ b t. cond b (testing_paths q f' t next) (next false t))
      (λ b. cond-grows b (λ t. testing_paths q f' t next) (next false) (testing-grows q f' next grows) (grows false))
      (elim [ true ↦ λ gs h. testing_exact q f' p gs h g next grows behind | false ↦ behind false ])
  testing_exact q (either f f') p fs hold g next grows behind =
      testing_exact q f p fs hold _ (λ b t. cond b (next true t) (testing_paths q f' t next))
      (λ b. cond-grows b (next true) (λ t. testing_paths q f' t next) (grows true) (testing-grows q f' next grows))
      (elim [ true ↦ behind true | false ↦ λ gs h. testing_exact q f' p gs h g next grows behind ])
  testing_exact q (implies f f') p fs hold g next grows behind =
      testing_exact q f p fs hold _ (λ b t. cond b (testing_paths q f' t next) (next true t))
      (λ b. cond-grows b (λ t. testing_paths q f' t next) (next true) (testing-grows q f' next grows) (grows true))
      (elim [ true ↦ λ gs h. testing_exact q f' p gs h g next grows behind | false ↦ behind true ])
  testing_exact q (same f f') p fs hold g next grows behind =
      testing_exact q f p fs hold _ (λ b t. testing_paths q f' t (λ c. next (same_truth b c)))
      (λ b. testing-grows q f' (λ c. next (same_truth b c)) (λ c. grows (same_truth b c)))
      (λ b gs h. testing_exact q f' p gs h (λ c. g (same_truth b c)) (λ c. next (same_truth b c)) (λ c. grows (same_truth b c)) (λ c. behind (same_truth b c)))
  testing_exact q always p fs hold g next grows behind = behind true fs hold
  testing_exact q never p fs hold g next grows behind = behind false fs hold
  testing_exact q (equal u v) p fs hold g next grows behind = deciding_exact q (equal u v) p fs hold g next grows behind
  testing_exact q (unequal u v) p fs hold g next grows behind = deciding_exact q (unequal u v) p fs hold g next grows behind
  testing_exact q (reaches i u v) p fs hold g next grows behind = deciding_exact q (reaches i u v) p fs hold g next grows behind
  testing_exact q (between i u v w) p fs hold g next grows behind = deciding_exact q (between i u v w) p fs hold g next grows behind
  testing_exact q (flag j u) p fs hold g next grows behind = deciding_exact q (flag j u) p fs hold g next grows behind
  testing_exact q (forall f) p fs hold g next grows behind = either_exact (forall f) p fs hold g next grows behind

  -- Clauses

  pub clauses-grows : (number : ℕ) (kind : ℕ → Kind) (i : ℕ) (cs : List Clause) (next : Follow) → Grows next → Grows (λ t. clauses_paths number kind i cs t next)
  unfolding clauses_paths
  clauses-grows number kind i [] next grows = grows
  clauses-grows number kind i (c ∷ cs) next grows = asking-grows number (kind i) c.formula _ (clauses-grows number kind (suc i) cs next grows)

  pub clauses_exact : (number : ℕ) (kind : ℕ → Kind) (i : ℕ) (cs : List Clause) (p : Point) (fs : List Fact) → Hold fs → (next : Follow) (rest : Events) → Grows next →
      ((gs : List Fact) → Hold gs → Exactly rest (next (at_point p gs))) →
      Exactly (clauses number kind i (state_at s nodes p) cs rest) (clauses_paths number kind i cs (at_point p fs) next)
  unfolding clauses clauses_paths
  clauses_exact number kind i [] p fs hold next rest grows behind = behind fs hold
  clauses_exact number kind i (c ∷ cs) p fs hold next rest grows behind =
      asking_exact number (kind i) c.formula c.line p fs hold (λ t. clauses_paths number kind (suc i) cs t next) _ (clauses-grows number kind (suc i) cs next grows)
      (λ a e. clauses_exact number kind (suc i) cs p (says a p c.formula ∷ fs) ((hold_cons (says a p c.formula) fs).1 (says-own p c.formula a e, hold)) next rest grows behind)

  -- Statements

  exact_at : (es es' : Events) (xs : Cases) → es ≡ es' → Exactly es' xs → Exactly es xs
  exact_at es es' xs e h c b at = subst (λ (z : Events). Meets s nodes c b at z ↔ Sees s nodes c b at xs) (sym e) (h c b at)

  -- a line that is met, a node that is given
  met_exact : (l : ℕ) (es : Events) (xs : Cases) → Exactly es xs → Exactly (met l ∷ es) xs
  unfolding Meets
  met_exact l es xs h = h

  gave_exact : (l v : ℕ) (es : Events) (xs : Cases) → Exactly es xs → Exactly (gave l v ∷ es) xs
  unfolding Meets
  gave_exact l v es xs h = h

  onward-grows : (f : Trail → Trail) → ((t : Trail) → (f t).facts ≡ t.facts) → (g : Follow) → Grows g → Grows (λ t. g (f t))
  onward-grows f e g grows t c b at h = subst Hold (e t) (grows (f t) c b at h)

  module _ (final : Follow) (final_grows : Grows final) where
    pub paths_grow : (x : Code) (next out : Follow) → Grows next → Grows out → Grows (paths final x next out)
    unfolding paths
    paths_grow end next out k l = k
    paths_grow (assign q x u rest) next out k l =
        reading-grows q (dereferenced u) _ (onward-grows (λ t. further t (named t.point x (name_of t.point u))) (λ t. refl) _ (paths_grow rest next out k l))
    paths_grow (assign_link q u i v rest) next out k l =
        reading-grows q _ _ (onward-grows (λ t. further t (linked t.point i (name_of t.point u) (name_of t.point v))) (λ t. refl) _ (paths_grow rest next out k l))
    paths_grow (assign_flag q u j b rest) next out k l =
        reading-grows q _ _ (onward-grows (λ t. further t (marked t.point j (name_of t.point u) b)) (λ t. refl) _ (paths_grow rest next out k l))
    paths_grow (havoc q x rest) next out k l = λ t c b at h.
        ((hold_cons (gives t.point.havocs) t.facts).0
        (paths_grow rest next out k l (record { point = havocked t.point x; facts = gives t.point.havocs ∷ t.facts }) c b at h)).1
    paths_grow (assume q f rest) next out k l = λ t c b at h.
        ((hold_cons (says true t.point f) t.facts).0 (paths_grow rest next out k l (saying t true f) c b at h)).1
    paths_grow (assert q f rest) next out k l = asking-grows q.number asserted f _ (paths_grow rest next out k l)
    paths_grow (cover q f rest) next out k l = asking-grows q.number covered f _ (paths_grow rest next out k l)
    paths_grow (branch q f a b rest) next out k l =
        let behind : Follow = paths final rest next out in
        let grows : Grows behind = paths_grow rest next out k l in
        testing-grows q f (λ v. cond v (paths final a behind out) (paths final b behind out))
        (elim [ true ↦ paths_grow a behind out grows l | false ↦ paths_grow b behind out grows l ])
    paths_grow (loop q f invariants body rest) next out k l = clauses-grows q.number entry 0 invariants (λ t. []) (λ t c b at h. absurd (no_case c b at h))
    paths_grow (leave q rest) next out k l = final_grows
    paths_grow (break_out q rest) next out k l = l

  -- behind an assignment: the state at the next point is the one that it makes
  moved_exact : (g : Go) (next : Follow) → Exact g next → (p p' : Point) (st : State) → state_at s nodes p' ≡ st → p'.havocs ≡ p.havocs →
      (fs : List Fact) → Hold fs → Exactly (g (record { state = st; nodes = drop p.havocs nodes })) (next (at_point p' fs))
  moved_exact g next exact p p' st e alike fs hold =
      exact_at _ _ _ (ap (λ (z : State). g (record { state = z; nodes = drop p.havocs nodes })) (sym e)
      ∙ ap (λ (k : ℕ). g (record { state = state_at s nodes p'; nodes = drop k nodes })) (sym alike)) (exact p' fs hold)

  -- `assume` ends a run where it does not hold
  assume_exact : (f : Formula) (p : Point) (fs : List Fact) → Hold fs → (es : Events) (next : Follow) → Grows next →
      ((gs : List Fact) → Hold gs → Exactly es (next (at_point p gs))) →
      Exactly (cond (holds (state_at s nodes p) [] f) es []) (next (at_point p (says true p f ∷ fs)))
  assume_exact f p fs hold es next grows behind = go (holds (state_at s nodes p) [] f) refl
    where
      go : (v : Bool) → holds (state_at s nodes p) [] f ≡ v → Exactly (cond v es []) (next (at_point p (says true p f ∷ fs)))
      go true e = behind (says true p f ∷ fs) ((hold_cons (says true p f) fs).1 (says-own p f true e, hold))
      go false e = nothing _ (untrue next grows p fs f true e)

  -- a havoc: a node is given, or the run is not followed on
  havoc_exact : (q : Place) (x : ℕ) (p : Point) (fs : List Fact) → Hold fs → (g : Go) (next : Follow) → Grows next → Exact g next →
      Exactly (giving q x (state_at s nodes p) (drop p.havocs nodes) g) (next (at_point (havocked p x) (gives p.havocs ∷ fs)))
  unfolding giving fact_holds havocked
  havoc_exact q x p fs hold g next grows exact = ⊎_elim none_left one_left (le_cases (length nodes) p.havocs)
    where
      k : ℕ
      k = p.havocs

      none_left : length nodes ≤ k → Exactly (giving q x (state_at s nodes p) (drop k nodes) g) (next (at_point (havocked p x) (gives k ∷ fs)))
      none_left l =
          exact_at _ [] _ (ap (λ (vs : List ℕ). giving q x (state_at s nodes p) vs g) (drop_all k nodes l))
          (nothing _ (λ c b at h. no_node l ((hold_cons (gives k) fs).0 (grows _ c b at h)).0))
        where
          no_node : length nodes ≤ k → ltb k (length nodes) ≡ true → ⊥
          no_node l e = let m = ltb-true k (length nodes) e in absurd (omega (arith, l, m))

      one_left : k < length nodes → Exactly (giving q x (state_at s nodes p) (drop k nodes) g) (next (at_point (havocked p x) (gives k ∷ fs)))
      one_left l =
          exact_at _ _ _ (ap (λ (vs : List ℕ). giving q x (state_at s nodes p) vs g) (drop-cons nodes k null_node l))
          (gave_exact q.line (get_or nodes k null_node) _ _
          (exact_at _ _ _ (ap (λ (z : State). g (record { state = z; nodes = drop (suc k) nodes })) (sym (havocked_state s nodes p x)))
          (exact (havocked p x) (gives k ∷ fs) ((hold_cons (gives k) fs).1 (ltb_intro l, hold)))))

  -- a block, by a run and by paths
  module _ (final : Go) (final' : Follow) (final_grows : Grows final') (final_exact : Exact final final') where
    pub run_exact : (x : Code) (next out : Go) (next' out' : Follow) → Grows next' → Grows out' → Exact next next' → Exact out out' →
        Exact (run entering final x next out) (paths final' x next' out')
    unfolding run paths entering named linked marked
    run_exact end next out next' out' gn go en eo p fs hold = en p fs hold
    run_exact (assign q x u rest) next out next' out' gn go en eo p fs hold =
        met_exact _ _ _ (reading_exact q (dereferenced u) p fs hold _ _
        (onward-grows (λ t. further t (named t.point x (name_of t.point u))) (λ t. refl) _ (paths_grow final' final_grows rest next' out' gn go))
        (λ gs h. moved_exact (run entering final rest next out) (paths final' rest next' out') (run_exact rest next out next' out' gn go en eo)
        p (named p x (name_of p u)) _ (named_state s nodes p x (name_of p u) ∙ ap (with_variable (state_at s nodes p) x) (name_node s nodes p u)) refl gs h))
    run_exact (assign_link q u i v rest) next out next' out' gn go en eo p fs hold =
        met_exact _ _ _ (reading_exact q (dereferenced u ++ (u ∷ []) ++ dereferenced v) p fs hold _ _
        (onward-grows (λ t. further t (linked t.point i (name_of t.point u) (name_of t.point v))) (λ t. refl) _ (paths_grow final' final_grows rest next' out' gn go))
        (λ gs h. moved_exact (run entering final rest next out) (paths final' rest next' out') (run_exact rest next out next' out' gn go en eo)
        p (linked p i (name_of p u) (name_of p v)) _
        (linked_state s nodes p i (name_of p u) (name_of p v)
        ∙ ap (λ (z : ℕ). with_link (state_at s nodes p) i z (node_of s nodes (name_of p v))) (name_node s nodes p u)
        ∙ ap (with_link (state_at s nodes p) i (node (state_at s nodes p) [] u)) (name_node s nodes p v))
        refl gs h))
    run_exact (assign_flag q u j b rest) next out next' out' gn go en eo p fs hold =
        met_exact _ _ _ (reading_exact q (dereferenced u ++ (u ∷ [])) p fs hold _ _
        (onward-grows (λ t. further t (marked t.point j (name_of t.point u) b)) (λ t. refl) _ (paths_grow final' final_grows rest next' out' gn go))
        (λ gs h. moved_exact (run entering final rest next out) (paths final' rest next' out') (run_exact rest next out next' out' gn go en eo)
        p (marked p j (name_of p u) b) _
        (marked_state s nodes p j (name_of p u) b ∙ ap (λ (z : ℕ). with_flag (state_at s nodes p) j z b) (name_node s nodes p u)) refl gs h))
    run_exact (havoc q x rest) next out next' out' gn go en eo p fs hold =
        met_exact _ _ _ (havoc_exact q x p fs hold (run entering final rest next out) (paths final' rest next' out')
        (paths_grow final' final_grows rest next' out' gn go) (run_exact rest next out next' out' gn go en eo))
    run_exact (assume q f rest) next out next' out' gn go en eo p fs hold =
        met_exact _ _ _ (assume_exact f p fs hold (run entering final rest next out (now_at p)) (paths final' rest next' out')
        (paths_grow final' final_grows rest next' out' gn go) (λ gs h. run_exact rest next out next' out' gn go en eo p gs h))
    run_exact (assert q f rest) next out next' out' gn go en eo p fs hold =
        met_exact _ _ _ (asking_exact q.number asserted f q.line p fs hold _ _ (paths_grow final' final_grows rest next' out' gn go)
        (λ a e. run_exact rest next out next' out' gn go en eo p _ ((hold_cons (says a p f) fs).1 (says-own p f a e, hold))))
    run_exact (cover q f rest) next out next' out' gn go en eo p fs hold =
        met_exact _ _ _ (asking_exact q.number covered f q.line p fs hold _ _ (paths_grow final' final_grows rest next' out' gn go)
        (λ a e. run_exact rest next out next' out' gn go en eo p _ ((hold_cons (says a p f) fs).1 (says-own p f a e, hold))))
    run_exact (branch q f a b rest) next out next' out' gn go en eo p fs hold =
        let behind : Go = run entering final rest next out in
        let behind' : Follow = paths final' rest next' out' in
        let grows : Grows behind' = paths_grow final' final_grows rest next' out' gn go in
        let along : Exact behind behind' = run_exact rest next out next' out' gn go en eo in
        met_exact _ _ _ (testing_exact q f p fs hold _ (λ v. cond v (paths final' a behind' out') (paths final' b behind' out'))
        (elim [ true ↦ paths_grow final' final_grows a behind' out' grows go | false ↦ paths_grow final' final_grows b behind' out' grows go ])
        (elim [ true ↦ run_exact a behind out behind' out' grows go along eo p | false ↦ run_exact b behind out behind' out' grows go along eo p ]))
    run_exact (loop q f invariants body rest) next out next' out' gn go en eo p fs hold =
        clauses_exact q.number entry 0 invariants p fs hold (λ t. []) [] (λ t c b at h. absurd (no_case c b at h))
        (λ gs h. nothing [] no_case)
    run_exact (leave q rest) next out next' out' gn go en eo p fs hold = met_exact _ _ _ (final_exact p fs hold)
    run_exact (break_out q rest) next out next' out' gn go en eo p fs hold = met_exact _ _ _ (eo p fs hold)
