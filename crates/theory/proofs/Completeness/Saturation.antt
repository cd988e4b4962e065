-- A path of the invariant at which no rule applies is saturated: each rule whose conditions are held has a held alternative.
use Prim.Native.Nat.{ℕ, ◌≤◌}
use native.Mathlib.Omega.{arith}
use mathlib.Core.Path.{◌≡◌, refl, sym, subst}
use mathlib.Core.Logic.{◌⊎◌, ⊎_elim, inl, inr}
use mathlib.Core.Bool.{true}
use mathlib.Core.List.Memᴰ
use mathlib.Core.List.{List, [], ◌∷◌, Memᴰ}
use mathlib.Core.Option.{none}
use Rattle.logic.specs.Search.{any}
use Rattle.logic.specs.Facts.{Graph, Facts, live, live_terms}
use Rattle.logic.specs.Rules.{Rule, REFLEX, TRANS1, TRANS2, FUNC, CYCLE, SCC, TOTAL, SHARE, triple, move, Fact, equal, round, conditions, alternatives, held, choose}
use Rattle.theory.proofs.Basics.Search.{bool_cases, true-false, and_intro, any-true, map-mem}
use Rattle.theory.proofs.Basics.Compare.{eqb-true}
use Rattle.theory.proofs.Paths.Doubled.{doubled-none}
use Rattle.theory.proofs.Paths.Ranged.{InRange, Ranged, live_range, live-mem, mem-live}
use Rattle.theory.proofs.Paths.Kept.{Sane}
use Rattle.theory.proofs.Paths.Applies.{has_link_intro, applies_intro}
use Rattle.theory.proofs.Walks.Order.{HoldsAll, choose-none, triples_full}
use Rattle.theory.proofs.Completeness.Saturated.{Saturated}

module _ (n : ℕ) (s : Facts) (order : List Rule) (full : HoldsAll order) (none_applies : choose n order s ≡ none) where
  -- at a triple of numbers up to n, conditions that are held give a held alternative
  held_alternative : (i : ℕ) → InRange s.links i → (r : Rule) (x y z : ℕ) → x ≤ n → y ≤ n → z ≤ n →
      conditions n (live n s) s.graph (move i r (triple x y z)) ≡ true → (c : Fact) × Memᴰ c (alternatives n s.graph (move i r (triple x y z)))
      × (held s.graph c ≡ true)
  held_alternative i k r x y z lx ly lz h =
      let m = move i r (triple x y z) in
      any-true (held s.graph) (alternatives n s.graph m)
      (⊎_elim (λ e. e)
      (λ e. absurd (true-false (applies_intro n s m (has_link_intro s.links i r (triple x y z) k) h e)
      (choose-none n s order full none_applies i r (triple x y z) k (triples_full n x y z lx ly lz))))
      (bool_cases (any (held s.graph) (alternatives n s.graph m))))

-- a held fact among one or two
one_held : (g : ℕ → Graph) {a : Fact} → (c : Fact) × Memᴰ c (a ∷ []) × (held g c ≡ true) → held g a ≡ true
one_held g p = ⊎_elim (λ e. subst (λ (c : Fact). held g c ≡ true) e p.2) (λ m. absurd (Memᴰ.not-nil m)) (Memᴰ.cases_cons p.1)

two_held : (g : ℕ → Graph) {a b : Fact} → (c : Fact) × Memᴰ c (a ∷ b ∷ []) × (held g c ≡ true) → (held g a ≡ true) ⊎ (held g b ≡ true)
two_held g p = ⊎_elim (λ e. inl (subst (λ (c : Fact). held g c ≡ true) e p.2)) (λ m. inr (one_held g (p.0, m, p.2))) (Memᴰ.cases_cons p.1)

module _ (n : ℕ) (s : Facts) (order : List Rule) (full : HoldsAll order) (sane : Sane n s) (none_applies : choose n order s ≡ none) (i : ℕ) (linked : InRange s.links i) where
  abbrev g : Graph
  g = s.graph i

  abbrev r : Ranged n s
  r = sane.ranged

  link_range : (a b : ℕ) → g.link a b ≡ true → InRange n a × InRange n b
  link_range a b h = let l = r.link_live i a b h in (live_range n s a l.0, live_range n s b l.1)

  reach_range : (a b : ℕ) → g.reach a b ≡ true → InRange n a × InRange n b
  reach_range a b h = let l = r.reach_live i a b h in (live_range n s a l.0, live_range n s b l.1)

  abbrev at_triple : (k : Rule) (x y z : ℕ) → x ≤ n → y ≤ n → z ≤ n → conditions n (live n s) s.graph (move i k (triple x y z)) ≡ true → (c : Fact)
      × Memᴰ c (alternatives n s.graph (move i k (triple x y z))) × (held s.graph c ≡ true)
  at_triple = held_alternative n s order full none_applies i linked

  pub saturated : Saturated n (live_terms n s) g
  unfolding conditions alternatives held
  saturated =
      record {
        in_range = λ v m. live_range n s v (mem-live n s v m);
        link_in = λ a b h. let l = r.link_live i a b h in (live-mem n s a l.0, live-mem n s b l.1);
        reach_in = λ a b h. let l = r.reach_live i a b h in (live-mem n s a l.0, live-mem n s b l.1);
        one_link_lem = λ a b c h h'. let p = link_range a b h in doubled-none n s sane.single i a b c linked p.0 p.1 (link_range a c h').1 h h';
        reflex = λ x m.
            let l = mem-live n s x m in
            one_held s.graph (at_triple REFLEX x 0 0 (live_range n s x l).1 (omega arith) (omega arith) (and_intro (and_intro l refl) refl));
        trans1 = λ x y h.
            let p = link_range x y h in
            one_held s.graph (at_triple TRANS1 x y 0 p.0.1 p.1.1 (omega arith) (and_intro h refl));
        trans2 = λ x y z h h'.
            let p = reach_range x y h in
            one_held s.graph (at_triple TRANS2 x y z p.0.1 p.1.1 (reach_range y z h').1.1 (and_intro h h'));
        func = λ x y z h h'.
            let p = link_range x y h in
            ⊎_elim (λ e. inl (eqb-true x z e)) (λ e. inr e) (two_held s.graph (at_triple FUNC x y z p.0.1 p.1.1 (reach_range x z h').1.1 (and_intro h h')));
        cycle = λ x y k l h h'.
            let p = reach_range x y h' in
            let c = at_triple CYCLE x y k p.0.1 p.1.1 l (and_intro h h') in
            let u = map-mem (equal y) c.0 (round n g k x) c.1 in
            subst (λ (v : ℕ). Memᴰ v (round n g k x)) (sym (eqb-true y u.0 (subst (λ (d : Fact). held s.graph d ≡ true) u.2 c.2))) u.1;
        scc = λ x y z h h' h''.
            let p = reach_range x y h in
            ⊎_elim (λ e. inl (eqb-true x y e)) (λ e. inr e) (two_held s.graph (at_triple SCC x y z p.0.1 p.1.1 (reach_range x z h'').1.1 (and_intro (and_intro h h') h'')));
        total = λ x y z h h'.
            let p = reach_range x y h in
            two_held s.graph (at_triple TOTAL x y z p.0.1 p.1.1 (reach_range x z h').1.1 (and_intro h h'));
        share = λ x y z h h' h'' h'''.
            let p = link_range x z h in
            eqb-true x y (one_held s.graph (at_triple SHARE x y z p.0.1 (link_range y z h').0.1 p.1.1 (and_intro (and_intro (and_intro h h') h'') h''')));
      }
