-- The completion of the links (01, "The heap shown") is right: it extends the links known, and what it reaches is what the facts say
-- (000, Lemma 1).
use Prim.Native.Nat.{ℕ, ◌≤◌}
use native.Mathlib.Omega.{arith}
use native.Mathlib.Decide.{ℕ_discrete}
use mathlib.Core.Path.{◌≡◌, refl, sym, ap, ◌∙◌, subst, fun_ext}
use mathlib.Core.Logic.{⊎_elim, ◌↔◌}
use mathlib.Core.Bool.{true, cond}
use mathlib.Core.List.Memᴰ
use mathlib.Core.List.{List, [], ◌∷◌, Memᴰ}
use lib.Dec.{eqb}
use borrow.Author.Tests.{eqb-true, eq-eqb, ne_eqb}
use Rattle.logic.specs.Search.{◌and◌}
use Rattle.logic.specs.Heap.{Reaches}
use Rattle.logic.specs.Facts.{Graph}
use Rattle.logic.specs.Rules.{next}
use Rattle.logic.specs.Shown.{new_link, link_each}
use Rattle.theory.proofs.Basics.Search.{not_of, and_right, and_intro}
use Rattle.theory.proofs.Completeness.Saturated.{Saturated}
use Rattle.theory.proofs.Graph.BasinGraph.{Compatible, edge_reaches, reaches_edge_full, extended_compatible}
use Rattle.theory.proofs.Completeness.KnownLinks.{Edge, basin_graph, link-next, next_compatible}
use Rattle.theory.proofs.Completeness.NewLink.{new_link-fits}

module _ (n : ℕ) (g : Graph) where
  -- the links after v's turn: v has got one if it had none
  module _ (p : ℕ → ℕ) (v : ℕ) where
    abbrev linked : ℕ → ℕ
    linked t = cond (eqb t v and eqb (p v) 0) (new_link n g p v) (p t)

    linked_new : p v ≡ 0 → linked v ≡ new_link n g p v
    linked_new e = rw (and_intro (eq-eqb v v refl) (eq-eqb (p v) 0 e)) refl

    linked_other : (t : ℕ) → (t ≡ v → ⊥) → linked t ≡ p t
    unfolding ◌and◌
    linked_other t d = rw (ne_eqb t v d) refl

    linked-kept : (t : ℕ) → 1 ≤ p t → linked t ≡ p t
    linked-kept t l = elim (ℕ_discrete t v) [
      | yes e ↦ rw (not_of {b = eqb t v and eqb (p v) 0} (λ h. omega (arith, ap p e, eqb-true (p v) 0 (and_right (eqb t v) (eqb (p v) 0) h)))) refl
      | no d ↦ linked_other t d
    ]

    linked_same : 1 ≤ p v → linked ≡ p
    linked_same l = fun_ext (λ t. elim (ℕ_discrete t v) [ yes e ↦ linked-kept t (rw e l) | no d ↦ linked_other t d ])

  each_kept : (ws : List ℕ) (p : ℕ → ℕ) (t : ℕ) → 1 ≤ p t → link_each n g p ws t ≡ p t
  unfolding link_each
  each_kept [] p t l = refl
  each_kept (v ∷ ws) p t l = let k = linked-kept p v t l in each_kept ws (linked p v) t (omega arith) ∙ k

module _ (n : ℕ) (vs : List ℕ) (g : Graph) (sat : Saturated n vs g) where
  linked_compatible : (p : ℕ → ℕ) (v : ℕ) → Compatible (Edge g) p → Edge g v v → Compatible (Edge g) (linked n g p v)
  linked_compatible p v c i = elim (ℕ_discrete (p v) 0) [
    | yes e ↦ extended_compatible (basin_graph sat) (linked n g p v) c v (new_link n g p v) e (new_link-fits sat c v i e) (linked_new n g p v e) (linked_other n g p v)
    | no d ↦ subst (Compatible (Edge g)) (sym (linked_same n g p v (omega arith))) c
  ]

  linked_positive : (p : ℕ → ℕ) (v : ℕ) → Compatible (Edge g) p → Edge g v v → 1 ≤ linked n g p v v
  linked_positive p v c i = elim (ℕ_discrete (p v) 0) [
    | yes e ↦
        let u = new_link n g p v in
        let range = (basin_graph sat).node u ((basin_graph sat).right v u (new_link-fits sat c v i e).edge) in
        omega (arith, linked_new n g p v e)
    | no d ↦ omega (arith, linked-kept n g p v v (omega arith))
  ]

  -- the turns of some terms, one after another
  each_compatible : (ws : List ℕ) (p : ℕ → ℕ) → ((w : ℕ) → Memᴰ w ws → Edge g w w) → Compatible (Edge g) p → Compatible (Edge g) (link_each n g p ws)
  unfolding link_each
  each_compatible [] p i c = c
  each_compatible (v ∷ ws) p i c =
      each_compatible ws (linked n g p v) (λ w m. i w (Memᴰ.tail m)) (linked_compatible p v c (i v (Memᴰ.head refl)))

  each_positive : (ws : List ℕ) (p : ℕ → ℕ) (w : ℕ) → ((w : ℕ) → Memᴰ w ws → Edge g w w) → Compatible (Edge g) p → Memᴰ w ws → 1 ≤ link_each n g p ws w
  unfolding link_each
  each_positive [] p w i c m = absurd (Memᴰ.not-nil m)
  each_positive (v ∷ ws) p w i c m =
      let j = i v (Memᴰ.head refl) in
      ⊎_elim
      (λ e. let l = linked_positive p v c j in rw e (omega (arith, each_kept n g ws (linked n g p v) v l)))
      (λ k. each_positive ws (linked n g p v) w (λ u o. i u (Memᴰ.tail o)) (linked_compatible p v c j) k)
      (Memᴰ.cases_cons m)

  completed_compatible : Compatible (Edge g) (link_each n g (next n g) vs)
  completed_compatible = each_compatible vs (next n g) sat.reflex (next_compatible sat)

  completed_positive : (v : ℕ) → Edge g v v → 1 ≤ link_each n g (next n g) vs v
  completed_positive v e = each_positive vs (next n g) v sat.reflex (next_compatible sat) (sat.reach_in v v e).0

  pub completed_in : (v : ℕ) → Memᴰ v vs → Memᴰ (link_each n g (next n g) vs v) vs
  completed_in v m =
      let f = link_each n g (next n g) vs in
      (sat.reach_in v (f v) (completed_compatible.edge v (completed_positive v (sat.reflex v m)))).1

  pub completed_known : (v w : ℕ) → g.link v w ≡ true → link_each n g (next n g) vs v ≡ w
  completed_known v w h =
      let e = link-next sat v w h in
      let range = sat.in_range w (sat.link_in v w h).1 in
      each_kept n g vs (next n g) v (omega arith) ∙ e

  pub completed_reach : (v w : ℕ) → Memᴰ v vs → (g.reach v w ≡ true) ↔ Reaches (link_each n g (next n g) vs) v w
  completed_reach v w m = (
    λ e. edge_reaches (basin_graph sat) completed_compatible completed_positive v w e,
    λ r. reaches_edge_full (basin_graph sat) completed_compatible completed_positive v w (sat.reflex v m) r,
  )
