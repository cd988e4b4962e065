-- Basin graphs and partial functions compatible with them (000, A.1). A partial function gives 0 where it is undefined. A node is a
-- number with an edge to itself.
use Prim.Native.Nat.{ℕ, zero, suc, ◌+◌, ◌-◌, ◌≤◌}
use native.Mathlib.Omega.{arith}
use native.Mathlib.Decide.{ℕ_discrete}
use mathlib.Core.Path.{◌≡◌, refl, sym, ap, ◌∙◌}
use mathlib.Core.Logic.{◌⊎◌, ⊎_elim, inl, inr}
use Rattle.logic.specs.Heap.{iterate, Reaches}
use Rattle.theory.proofs.Basics.Iterate.{iterate-add, reaches_refl, reaches_step, reaches_trans}
use Rattle.theory.proofs.Graph.Cycles.{OnCycle, Within, cycle_along, cycle_back, meets_on_cycle}

-- 000, Def. 2, for nodes among 1 to n: two nodes that reach each other reach nothing that does not reach back, and of two nodes reached
-- from one node, one reaches the other
pub record BasinGraph (n : ℕ) (E : ℕ → ℕ → Type 0) : Type 0 where
  pub node : (v : ℕ) → E v v → (1 ≤ v) × (v ≤ n)
  pub left : (v w : ℕ) → E v w → E v v
  pub right : (v w : ℕ) → E v w → E w w
  pub trans : (u v w : ℕ) → E u v → E v w → E u w
  pub closed : (u v w : ℕ) → E u v → E v u → E u w → (u ≡ v) ⊎ E w u
  pub total : (u v w : ℕ) → E u v → E u w → E v w ⊎ E w v

-- 000, Def. 3: links are edges; a cycle has all that it reaches; what v reaches, v excepted, its link reaches; and in a basin, which
-- two nodes that reach each other share, no two links lead to one node
pub record Compatible (E : ℕ → ℕ → Type 0) (p : ℕ → ℕ) : Type 0 where
  pub edge : (v : ℕ) → 1 ≤ p v → E v (p v)
  pub cycle : (v w : ℕ) → OnCycle p v → E v w → Reaches p v w
  pub keeps : (v w : ℕ) → 1 ≤ p v → E v w → (v ≡ w) ⊎ E (p v) w
  pub single : (u v : ℕ) → E u v → E v u → 1 ≤ p u → p u ≡ p v → u ≡ v

-- what is asked of u so that p stays compatible where it is given the value u at v
pub record Fits (E : ℕ → ℕ → Type 0) (p : ℕ → ℕ) (v u : ℕ) : Type 0 where
  pub edge : E v u
  pub cycle : (w : ℕ) → Reaches p u v → E v w → Reaches p u w
  pub keeps : (w : ℕ) → E v w → (v ≡ w) ⊎ E u w
  pub single : (x : ℕ) → E v x → E x v → p x ≡ u → ⊥

module _ {n : ℕ} {E : ℕ → ℕ → Type 0} (graph : BasinGraph n E) where
  -- a partial function along edges
  module _ (p : ℕ → ℕ) (edge : (v : ℕ) → 1 ≤ p v → E v (p v)) where
    -- 0 is no node, so p has no value there
    at_zero : p 0 ≡ 0
    at_zero = elim (ℕ_discrete (p 0) 0) [
      | yes e ↦ e
      | no d ↦ absurd (let r = graph.node 0 (graph.left 0 (p 0) (edge 0 (omega arith))) in omega arith)
    ]

    pub iterate-zero : (k v : ℕ) → v ≡ 0 → iterate p k v ≡ 0
    unfolding iterate
    iterate-zero zero v e = e
    iterate-zero (suc k) v e = iterate-zero k (p v) (ap p e ∙ at_zero)

    -- p goes on from no 0
    pub iterate_positive : (k v : ℕ) → 1 ≤ iterate p k v → 1 ≤ v
    iterate_positive k v h = elim (ℕ_discrete v 0) [ yes e ↦ absurd (omega (arith, iterate-zero k v e)) | no d ↦ omega arith ]

    -- where p goes on for k steps, it goes on for fewer
    pub iterate_before : (k i v : ℕ) → i ≤ k → 1 ≤ iterate p k v → 1 ≤ iterate p i v
    iterate_before k i v l h =
        let s : i + (k - i) ≡ k = omega arith in
        iterate_positive (k - i) (iterate p i v) (omega (arith, ap (λ (m : ℕ). iterate p m v) (sym s) ∙ iterate-add p i (k - i) v))

    pub iterate-edge : (k v : ℕ) → E v v → 1 ≤ iterate p k v → E v (iterate p k v)
    unfolding iterate
    iterate-edge zero v i h = i
    iterate-edge (suc k) v i h =
        let e = edge v (iterate_positive k (p v) h) in
        graph.trans v (p v) (iterate p k (p v)) e (iterate-edge k (p v) (graph.right v (p v) e) h)

    iterate-node : (k v : ℕ) → E v v → 1 ≤ iterate p k v → (1 ≤ iterate p k v) × (iterate p k v ≤ n)
    iterate-node k v i h = graph.node (iterate p k v) (graph.right v (iterate p k v) (iterate-edge k v i h))

    pub reaches_edge : (v w : ℕ) → E v v → 1 ≤ w → Reaches p v w → E v w
    unfolding Reaches
    reaches_edge v w i h r = rw r.1 at (iterate-edge r.0 v i (omega (arith, r.1)))

    -- a path of n links passes nodes alone, and so does a cycle
    pub path_within : (v : ℕ) → E v v → 1 ≤ iterate p n v → Within p n v
    path_within v i h k l = iterate-node k v i (iterate_before n k v l h)

    pub cycle_within : (v : ℕ) → E v v → OnCycle p v → Within p n v
    unfolding Reaches
    cycle_within v i o k l =
        let range = graph.node v i in
        let (j, e) = cycle_back p v (iterate p k v) o (k, refl) in
        iterate-node k v i (iterate_positive j (iterate p k v) (omega arith))

  -- 000, Lemma 4: a compatible function with a value at every node has E for its closure
  module _ {p : ℕ → ℕ} (compatible : Compatible E p) (full : (v : ℕ) → E v v → 1 ≤ p v) where
    full_edge : (k v : ℕ) → E v v → E v (iterate p k v)
    unfolding iterate
    full_edge zero v i = i
    full_edge (suc k) v i =
        let e = compatible.edge v (full v i) in
        graph.trans v (p v) (iterate p k (p v)) e (full_edge k (p v) (graph.right v (p v) e))

    -- following p from v, w is met or still reached
    met_or_reached : (k v w : ℕ) → E v w → Reaches p v w ⊎ E (iterate p k v) w
    unfolding iterate
    met_or_reached zero v w e = inr e
    met_or_reached (suc k) v w e =
        ⊎_elim (λ q. inl (rw q (reaches_refl p w)))
        (λ f. ⊎_elim (λ r. inl (reaches_step p v w r)) (λ g. inr g) (met_or_reached k (p v) w f))
        (compatible.keeps v w (full v (graph.left v w e)) e)

    full_within : (v : ℕ) → E v v → Within p n v
    full_within v i k l = graph.node (iterate p k v) (graph.right v (iterate p k v) (full_edge k v i))

    -- a cycle is met on the way from v, and w is on it where it was not met before
    pub edge_reaches : (v w : ℕ) → E v w → Reaches p v w
    unfolding Reaches
    edge_reaches v w e =
        let (c, l, r, o) = meets_on_cycle p n v (full_within v (graph.left v w e)) in
        ⊎_elim (λ m. m) (λ f. reaches_trans p v c w r (compatible.cycle c w o (rw r.1 at f))) (met_or_reached r.0 v w e)

    pub reaches_edge_full : (v w : ℕ) → E v v → Reaches p v w → E v w
    unfolding Reaches
    reaches_edge_full v w i r = rw r.1 at (full_edge r.0 v i)

  -- 000, Lemma 3: q is p with the value u at v
  module _ {p : ℕ → ℕ} (q : ℕ → ℕ) (compatible : Compatible E p) (v u : ℕ) (undefined : p v ≡ 0) (fits : Fits E p v u) (new : q v ≡ u) (old : (x : ℕ) → (x ≡ v → ⊥) → q x ≡ p x) where
    -- p goes on nowhere from v, so q leads wherever p does
    extended_iterate : (k x : ℕ) → 1 ≤ iterate p k x → iterate q k x ≡ iterate p k x
    unfolding iterate
    extended_iterate zero x h = refl
    extended_iterate (suc k) x h = elim (ℕ_discrete x v) [
      | yes e ↦ absurd (omega (arith, iterate-zero p compatible.edge k (p x) (ap p e ∙ undefined)))
      | no d ↦ rw (old x d) (extended_iterate k (p x) h)
    ]

    extended_reaches : (x w : ℕ) → 1 ≤ w → Reaches p x w → Reaches q x w
    unfolding Reaches
    extended_reaches x w h r = (r.0, extended_iterate r.0 x (omega (arith, r.1)) ∙ r.1)

    -- where q leads p does too, unless it comes to v
    comes_or_leads : (k x : ℕ) → Reaches p x v ⊎ Reaches p x (iterate q k x)
    unfolding iterate
    comes_or_leads zero x = inr (reaches_refl p x)
    comes_or_leads (suc k) x = elim (ℕ_discrete x v) [
      | yes e ↦ inl (rw e (reaches_refl p v))
      | no d ↦ rw (old x d) (⊎_elim (λ r. inl (reaches_step p x v r)) (λ r. inr (reaches_step p x (iterate q k (p x)) r)) (comes_or_leads k (p x)))
    ]

    extended_edge : (x : ℕ) → 1 ≤ q x → E x (q x)
    extended_edge x h = elim (ℕ_discrete x v) [
      | yes e ↦ rw (e, new) fits.edge
      | no d ↦ rw (old x d) (compatible.edge x (omega (arith, old x d)))
    ]

    extended_keeps : (x w : ℕ) → 1 ≤ q x → E x w → (x ≡ w) ⊎ E (q x) w
    extended_keeps x w h = elim (ℕ_discrete x v) [
      | yes e ↦ rw (e, new) (fits.keeps w)
      | no d ↦ rw (old x d) (compatible.keeps x w (omega (arith, old x d)))
    ]

    extended_single : (x y : ℕ) → E x y → E y x → 1 ≤ q x → q x ≡ q y → x ≡ y
    extended_single x y a b h e = go (ℕ_discrete x v) (ℕ_discrete y v)
      where
        go : Dec (x ≡ v) → Dec (y ≡ v) → x ≡ y
        go (yes c) (yes d) = c ∙ sym d
        go (yes c) (no d) = absurd (fits.single y (rw c at a) (rw c at b) (sym (old y d) ∙ sym e ∙ ap q c ∙ new))
        go (no c) (yes d) = absurd (fits.single x (rw d at b) (rw d at a) (sym (old x c) ∙ e ∙ ap q d ∙ new))
        go (no c) (no d) = compatible.single x y a b (omega (arith, old x c)) (sym (old x c) ∙ e ∙ old y d)

    -- a cycle of q through v, one that comes to v, and any other: that is a cycle of p
    through_new : (w : ℕ) → OnCycle q v → E v w → Reaches q v w
    unfolding Reaches
    through_new w c e =
        let r : Reaches p u v = ⊎_elim (λ r. r) (λ r. rw (ap (iterate q c.0) (sym new) ∙ c.1) at r) (comes_or_leads c.0 u) in
        let range = graph.node w (graph.right v w e) in
        reaches_step q v w (rw new (extended_reaches u w range.0 (fits.cycle w r e)))

    comes_to_new : (x w : ℕ) → OnCycle q x → Reaches q x v → E x w → Reaches q x w
    comes_to_new x w c r e =
        let i = graph.left v u fits.edge in
        let f : E v x = reaches_edge q extended_edge v x i (graph.node x (graph.left x w e)).0 (cycle_back q x v c r) in
        reaches_trans q x v w r (through_new w (cycle_along q x v c r) (graph.trans v x w f e))

    comes_or-cycle : (x : ℕ) → OnCycle q x → Reaches q x v ⊎ OnCycle p x
    unfolding Reaches
    comes_or-cycle x c = go (ℕ_discrete x v)
      where
        range : (1 ≤ v) × (v ≤ n)
        range = graph.node v (graph.left v u fits.edge)

        go : Dec (x ≡ v) → Reaches q x v ⊎ OnCycle p x
        go (yes d) = inl (rw d (reaches_refl q v))
        go (no d) =
            ⊎_elim (λ r. inl (extended_reaches x v range.0 (reaches_step p x v r))) (λ r. inr (rw (ap (iterate q c.0) (sym (old x d)) ∙ c.1) at r))
            (comes_or_leads c.0 (p x))

    extended_cycle : (x w : ℕ) → OnCycle q x → E x w → Reaches q x w
    extended_cycle x w c e =
        let range = graph.node w (graph.right x w e) in
        ⊎_elim (λ r. comes_to_new x w c r e) (λ o. extended_reaches x w range.0 (compatible.cycle x w o e)) (comes_or-cycle x c)

    pub extended_compatible : Compatible E q
    extended_compatible = record { edge = extended_edge; cycle = extended_cycle; keeps = extended_keeps; single = extended_single }
