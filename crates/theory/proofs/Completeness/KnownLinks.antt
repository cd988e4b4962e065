-- Saturated facts are a basin graph, with which the links known are compatible (000, Lemma 5).
use Prim.Native.Nat.{ℕ, zero, suc, ◌≤◌}
use native.Mathlib.Omega.{arith}
use native.Mathlib.Decide.{ℕ_discrete}
use mathlib.Core.Path.{◌≡◌, refl}
use mathlib.Core.Logic.{⊎_elim}
use mathlib.Core.Bool.{true}
use mathlib.Core.List.Memᴰ
use mathlib.Core.List.{List, Memᴰ}
use borrow.Author.Tests.{eq-eqb, ne_eqb}
use Rattle.logic.specs.Heap.{iterate, Reaches}
use Rattle.logic.specs.Facts.{Graph, terms}
use Rattle.logic.specs.Rules.{next, returns, round}
use Rattle.theory.proofs.Basics.Search.{from_intro}
use Rattle.theory.proofs.Basics.Iterate.{reaches_refl, reaches_step}
use Rattle.theory.proofs.Completeness.Saturated.{Saturated}
use Rattle.theory.proofs.Graph.Cycles.{OnCycle, cycle_short}
use Rattle.theory.proofs.Graph.BasinGraph.{BasinGraph, Compatible, cycle_within}
use Rattle.theory.proofs.Completeness.Found.{found_positive, found_of}

abbrev pub Edge : Graph → ℕ → ℕ → Type 0
Edge g v w = g.reach v w ≡ true

module _ (n : ℕ) (g : Graph) where
  -- links that return do so for the first time
  returns_of : (j x c : ℕ) → iterate (next n g) (suc j) c ≡ x → (k : ℕ) × (k ≤ suc j) × (returns n g x k c ≡ true)
  unfolding returns iterate
  returns_of zero x c e = (1, omega arith, rw (eq-eqb (next n g c) x e) refl)
  returns_of (suc j) x c e = elim (ℕ_discrete (next n g c) x) [
    | yes q ↦ (1, omega arith, rw (eq-eqb (next n g c) x q) refl)
    | no d ↦ let (k, l, r) = returns_of j x (next n g c) e in (suc k, omega arith, rw (ne_eqb (next n g c) x d) r)
  ]

  round_reaches : (k x y : ℕ) → Memᴰ y (round n g k x) → Reaches (next n g) x y
  unfolding round
  round_reaches zero x y m = absurd (Memᴰ.not-nil m)
  round_reaches (suc k) x y m =
      ⊎_elim (λ e. rw e (reaches_refl (next n g) x)) (λ i. reaches_step (next n g) x y (round_reaches k (next n g x) y i)) (Memᴰ.cases_cons m)

  next-link : (v : ℕ) → 1 ≤ next n g v → g.link v (next n g v) ≡ true
  unfolding next
  next-link v l = (found_positive (g.link v) (terms n) l).1

module _ {n : ℕ} {vs : List ℕ} {g : Graph} (sat : Saturated n vs g) where
  pub basin_graph : BasinGraph n (Edge g)
  basin_graph =
      record {
        node = λ v e. sat.in_range v (sat.reach_in v v e).0;
        left = λ v w e. sat.reflex v (sat.reach_in v w e).0;
        right = λ v w e. sat.reflex w (sat.reach_in v w e).1;
        trans = sat.trans2;
        closed = sat.scc;
        total = sat.total;
      }

  pub link-next : (v w : ℕ) → g.link v w ≡ true → next n g v ≡ w
  unfolding next terms
  link-next v w h =
      let range = sat.in_range w (sat.link_in v w h).1 in
      sat.one_link_lem v (next n g v) w (found_of (g.link v) (terms n) w (from_intro n 1 w range.0 (omega arith)) h).1 h

  next_edge : (v : ℕ) → 1 ≤ next n g v → Edge g v (next n g v)
  next_edge v l = sat.trans1 v (next n g v) (next-link n g v l)

  -- a cycle of links has at most n terms, so that rule CYCLE speaks of it
  next-cycle : (v w : ℕ) → OnCycle (next n g) v → Edge g v w → Reaches (next n g) v w
  next-cycle v w o e =
      let within = cycle_within basin_graph (next n g) next_edge v (basin_graph.left v w e) o in
      let (d, l, q) = cycle_short (next n g) n v within o in
      let (k, m, r) = returns_of n g d v v q in
      round_reaches n g k v w (sat.cycle v w k (omega arith) r e)

  pub next_compatible : Compatible (Edge g) (next n g)
  next_compatible =
      record {
        edge = next_edge;
        cycle = next-cycle;
        keeps = λ v w l e. sat.func v (next n g v) w (next-link n g v l) e;
        single = λ u v e f l q. sat.share u v (next n g u) (next-link n g u l) (rw (← q) at (next-link n g v (omega arith))) e f;
      }
