-- Only links that a routine assigns, or speaks of in a `between`, are cut on its paths.
use Prim.Native.Nat.{ℕ, suc, ◌+◌}
use mathlib.Core.Path.{◌≡◌, refl, sym, ap, ◌∙◌, subst}
use mathlib.Core.Logic.{◌⊎◌, ⊎_elim, inl, inr}
use mathlib.Core.Bool.{Bool, true, false, not}
use mathlib.Core.List.Memᴰ
use mathlib.Core.List.{List, [], ◌∷◌, ◌++◌, map, Memᴰ}
use lib.Dec.{eqb}
use lib.ListN.{length}
use Rattle.logic.specs.Search.{select}
use Rattle.theory.proofs.Basics.Search.{select-mem, map-mem}
use Rattle.theory.proofs.Basics.Compare.{eqb-true}
use Rattle.routine_logic.specs.Syntax.{Formula, always, never, equal, unequal, reaches, between, flag, negation, both, either, implies, same, forall, Clause, Routine}
use Rattle.path_theory.specs.Points.{Stores, none, store, Point, at_start, name_of, named, linked, marked, havocked}
use Rattle.path_theory.specs.Assignments.{count}
use Rattle.path_theory.specs.Paths.{Fact, says, gives, Trail, Case, start_trail}
use Rattle.literal_theory.specs.Labels.{Label, chosen, cut_names}
use Rattle.literal_theory.specs.Translation.{Places, left, right, Cut, betweens, fact_betweens, plan_of}
use Rattle.literal_theory.specs.Claims.{CutWithin, CaseOf}
use Rattle.literal_theory.proofs.Names.{Each, each_cons, each_append}
use Rattle.literal_theory.proofs.Invariants.{InRoutine, Invariant, cases_keep}
use Rattle.literal_theory.proofs.Ordered.{changed_each}

module _ (links : List ℕ) where
  abbrev In : ℕ → Type 0
  In i = Memᴰ i links

  -- the links of a formula's betweens
  unfoldable pub BetweenIn : Formula → Type 0
  BetweenIn (between i t u v) = In i
  BetweenIn (negation f) = BetweenIn f
  BetweenIn (both f g) = BetweenIn f × BetweenIn g
  BetweenIn (either f g) = BetweenIn f × BetweenIn g
  BetweenIn (implies f g) = BetweenIn f × BetweenIn g
  BetweenIn (same f g) = BetweenIn f × BetweenIn g
  BetweenIn (forall f) = BetweenIn f
  BetweenIn always = Unit
  BetweenIn never = Unit
  BetweenIn (equal t u) = Unit
  BetweenIn (unequal t u) = Unit
  BetweenIn (reaches i t u) = Unit
  BetweenIn (flag j t) = Unit

  abbrev CutIn : Cut → Type 0
  CutIn c = In c.link

  betweens_in : (b : Bool) (p : Point) (name : Places) (e : List Label) (f : Formula) → BetweenIn f → Each CutIn (betweens b p name e f)
  unfolding betweens BetweenIn
  betweens_in b p name e (between i t u v) h = each_cons CutIn _ [] h (λ c m. absurd (Memᴰ.not-nil m))
  betweens_in b p name e (negation f) h = betweens_in (not b) p name e f h
  betweens_in b p name e (both f g) h =
      each_append CutIn (betweens b p (left name) e f) _ (betweens_in b p (left name) e f h.0) (betweens_in b p (right name) e g h.1)
  betweens_in b p name e (either f g) h =
      each_append CutIn (betweens b p (left name) e f) _ (betweens_in b p (left name) e f h.0) (betweens_in b p (right name) e g h.1)
  betweens_in b p name e (implies f g) h =
      each_append CutIn (betweens (not b) p (left name) e f) _ (betweens_in (not b) p (left name) e f h.0) (betweens_in b p (right name) e g h.1)
  betweens_in b p name e (same f g) h =
      each_append CutIn (betweens true p (left name) e f ++ betweens b p (right name) e g) _
      (each_append CutIn (betweens true p (left name) e f) _ (betweens_in true p (left name) e f h.0) (betweens_in b p (right name) e g h.1))
      (each_append CutIn (betweens false p (left name) e f) _ (betweens_in false p (left name) e f h.0) (betweens_in (not b) p (right name) e g h.1))
  betweens_in true p name e (forall f) h = λ c m. absurd (Memᴰ.not-nil m)
  betweens_in false p name e (forall f) h = betweens_in false p (left name) (name [] ∷ e) f h
  betweens_in b p name e always h = λ c m. absurd (Memᴰ.not-nil m)
  betweens_in b p name e never h = λ c m. absurd (Memᴰ.not-nil m)
  betweens_in b p name e (equal t u) h = λ c m. absurd (Memᴰ.not-nil m)
  betweens_in b p name e (unequal t u) h = λ c m. absurd (Memᴰ.not-nil m)
  betweens_in b p name e (reaches i t u) h = λ c m. absurd (Memᴰ.not-nil m)
  betweens_in b p name e (flag j t) h = λ c m. absurd (Memᴰ.not-nil m)

  unfoldable FactIn : Fact → Type 0
  FactIn (says b p f) = BetweenIn f
  FactIn (gives n) = Unit

  facts_in : (k : ℕ) (fs : List Fact) → Each FactIn fs → Each CutIn (fact_betweens k fs)
  unfolding fact_betweens FactIn
  facts_in k [] h = λ c m. absurd (Memᴰ.not-nil m)
  facts_in k (says b p f ∷ fs) h =
      each_append CutIn (betweens b p (chosen k) [] f) (fact_betweens (suc k) fs) (betweens_in b p (chosen k) [] f (h (says b p f) (Memᴰ.head refl)))
      (facts_in (suc k) fs (λ g m. h g (Memᴰ.tail m)))
  facts_in k (gives n ∷ fs) h = facts_in (suc k) fs (λ g m. h g (Memᴰ.tail m))

  -- no other link is assigned, and none is spoken of in a between
  record Within (t : Trail) : Type 0 where
    pub stores : (i : ℕ) → In i ⊎ (t.point.stores i ≡ none)
    pub facts : Each FactIn t.facts

  within_kept : Invariant Within BetweenIn In
  unfolding start_trail at_start named linked marked havocked BetweenIn FactIn
  within_kept =
      record {
        at_start_lem = λ cs q.
            record {
              stores = λ i. inr refl;
              facts = λ f m. let r = map-mem (λ (c : Clause). says true at_start c.formula) f cs m in subst FactIn (sym r.2) (q r.0 r.1);
            };
        not_null_lem = λ u. tt;
        says = λ t b f q o. record { stores = o.stores; facts = each_cons FactIn (says b t.point f) t.facts q o.facts };
        names = λ t x u o. record { stores = o.stores; facts = o.facts };
        links = λ t i u v q o.
            record {
              stores = changed_each (λ k w. In k ⊎ (w ≡ none)) t.point.stores i (store (t.point.stores i) (name_of t.point u) (name_of t.point v)) (inl q) o.stores;
              facts = o.facts;
            };
        marks = λ t j u b o. record { stores = o.stores; facts = o.facts };
        havocs = λ t x o. record { stores = o.stores; facts = each_cons FactIn (gives t.point.havocs) t.facts tt o.facts };
      }

  -- a routine that assigns these links only, and speaks of no other in a between, cuts no other
  pub cut_within : (r : Routine) → InRoutine BetweenIn In r → (x : Case) → CaseOf r x → CutWithin links x
  cut_within r q x of i =
      let o = cases_keep Within BetweenIn In within_kept r q of.paths of.of_routine x of.comes in
      ⊎_elim (λ h. inl h) (λ none_assigned. further_in o.facts none_assigned) (o.stores i)
    where
      cuts : List Cut
      cuts = fact_betweens 0 x.trail.facts

      none_cut : (cs : List Cut) → cs ≡ [] → x.trail.point.stores i ≡ none → count (x.trail.point.stores i) + length (map (λ (c : Cut). c.label) cs) ≡ 0
      none_cut cs e n = unfold count in ap (λ (z : Stores). count z + length (map (λ (c : Cut). c.label) cs)) n ∙ ap (λ (z : List Cut). 0 + length (map (λ (c : Cut). c.label) z)) e

      further_in : Each FactIn x.trail.facts → x.trail.point.stores i ≡ none → In i ⊎ ((cut_names (plan_of x) i).number ≡ 0)
      further_in h n = unfold plan_of cut_names in go (select (λ (c : Cut). eqb c.link i) cuts) refl
        where
          go : (cs : List Cut) → select (λ (c : Cut). eqb c.link i) cuts ≡ cs →
              In i ⊎ (count (x.trail.point.stores i) + length (map (λ (c : Cut). c.label) (select (λ (c : Cut). eqb c.link i) cuts)) ≡ 0)
          go [] e = inr (none_cut (select (λ (c : Cut). eqb c.link i) cuts) e n)
          go (c ∷ cs) e =
              let m = select-mem (λ (d : Cut). eqb d.link i) c cuts (subst (Memᴰ c) (sym e) (Memᴰ.head refl)) in
              inl (subst In (eqb-true c.link i m.1) (facts_in 0 x.trail.facts h c m.0))
