-- Which value a compatible partial function p may be given at a node v where it has none (000, Def. 4, with what Lemmas 2 and 3 say of
-- it).
use Prim.Native.Nat.{ℕ, zero, suc, ◌≤◌}
use native.Mathlib.Omega.{arith}
use native.Mathlib.Decide.{ℕ_discrete, dec_le}
use mathlib.Core.Path.{◌≡◌, refl, sym, ap, ◌∙◌}
use mathlib.Core.Logic.{◌⊎◌, ⊎_elim, inl, inr}
use mathlib.Core.List.Memᴰ
use mathlib.Core.List.{List, [], ◌∷◌, Memᴰ}
use Rattle.logic.specs.Heap.{iterate, Reaches}
use Rattle.theory.proofs.Basics.Iterate.{iterate-suc}
use Rattle.theory.proofs.Graph.Cycles.{OnCycle, cycle_along, meets_on_cycle}
use Rattle.theory.proofs.Graph.BasinGraph.{BasinGraph, Compatible, Fits, iterate-zero, iterate_before, iterate-edge, path_within, reaches_edge}

-- b begins a path of what v reaches: p has the value b at no node that v reaches
abbrev pub Head : (ℕ → ℕ → Type 0) → (ℕ → ℕ) → ℕ → ℕ → Type 0
Head E p v b = E v b × ((x : ℕ) → E v x → p x ≡ b → ⊥)

module _ {n : ℕ} {E : ℕ → ℕ → Type 0} (graph : BasinGraph n E) (v : ℕ) where
  -- what of some nodes, v excepted, reaches all the others, and m too
  abbrev Least : List ℕ → ℕ → ℕ → Type 0
  Least xs m u = E v u × (u ≡ v → ⊥) × E u m × ((w : ℕ) → Memᴰ w xs → (v ≡ w) ⊎ E u w)

  least-add : (x : ℕ) (xs : List ℕ) (u : ℕ) → ((w : ℕ) → Memᴰ w xs → (v ≡ w) ⊎ E u w) → (v ≡ x) ⊎ E u x → (w : ℕ) → Memᴰ w (x ∷ xs) → (v ≡ w) ⊎ E u w
  least-add x xs u k g w i = ⊎_elim (λ q. rw q g) (λ j. k w j) (Memᴰ.cases_cons i)

  -- there is one, as two nodes that v reaches are always comparable
  pub least : (xs : List ℕ) (m : ℕ) → ((x : ℕ) → Memᴰ x xs → E v x) → E v m → (m ≡ v → ⊥) → (u : ℕ) × Least xs m u
  least [] m h e d = (m, (e, d, graph.right v m e, λ w i. absurd (Memᴰ.not-nil i)))
  least (x ∷ xs) m h e d = go (ℕ_discrete x v) (least xs m rest e d) (least xs x rest here) (graph.total v m x e here)
    where
      here : E v x
      here = h x (Memᴰ.head refl)

      rest : (y : ℕ) → Memᴰ y xs → E v y
      rest y i = h y (Memᴰ.tail i)

      go : Dec (x ≡ v) → (u : ℕ) × Least xs m u → ((x ≡ v → ⊥) → (u : ℕ) × Least xs x u) → E m x ⊎ E x m → (u : ℕ) × Least (x ∷ xs) m u
      go (yes q) (u, (f, c, g, k)) _ _ = (u, (f, c, g, least-add x xs u k (inl (sym q))))
      go (no q) (u, (f, c, g, k)) _ (inl a) = (u, (f, c, g, least-add x xs u k (inr (graph.trans u m x g a))))
      go (no q) _ r (inr a) = let (u, (f, c, g, k)) = r q in (u, (f, c, graph.trans u x m g a, least-add x xs u k (inr g)))

module _ {n : ℕ} {E : ℕ → ℕ → Type 0} (graph : BasinGraph n E) {p : ℕ → ℕ} (compatible : Compatible E p) (v : ℕ) (node : E v v) (undefined : p v ≡ 0) where
  -- v reaches a z that does not reach back, so v is alone in its component
  module _ (z : ℕ) (out : E v z) (away : E z v → ⊥) where
    alone : (x : ℕ) → E v x → E x v → v ≡ x
    alone x a b = ⊎_elim (λ e. e) (λ e. absurd (away e)) (graph.closed v x z a b out)

    pub tree_fits : (u : ℕ) → E v u → (u ≡ v → ⊥) → ((w : ℕ) → E v w → (v ≡ w) ⊎ E u w) → Fits E p v u
    tree_fits u e d keeps =
        let range = graph.node u (graph.right v u e) in
        let positive = graph.node v node in
        record {
          edge = e;
          cycle = λ w r f. absurd (d (sym (alone u e (reaches_edge graph p compatible.edge u v (graph.right v u e) positive.0 r))));
          keeps = keeps;
          single = λ x a b q. omega (arith, sym q ∙ ap p (sym (alone x a b)) ∙ undefined);
        }

  -- every node that v reaches reaches v: they are a basin
  module _ (back : (x : ℕ) → E v x → E x v) where
    basin_edge : (x y : ℕ) → E v x → E v y → E x y
    basin_edge x y e f = graph.trans x v y (back x e) f

    -- p has no value at v, so no cycle
    no-cycle : (x : ℕ) → E v x → OnCycle p x → ⊥
    unfolding Reaches
    no-cycle x e o =
        let (k, q) = cycle_along p x v o (compatible.cycle x v o (back x e)) in
        let positive = graph.node v node in
        omega (arith, sym q ∙ iterate-zero graph p compatible.edge k (p v) undefined)

    -- so the path from each node ends
    ends : (x : ℕ) → E v x → iterate p n x ≡ 0
    ends x e = elim (ℕ_discrete (iterate p n x) 0) [
      | yes q ↦ q
      | no d ↦
          let i : E x x = graph.right v x e in
          let (w, l, r, o) = meets_on_cycle p n x (path_within graph p compatible.edge x i (omega arith)) in
          absurd (no-cycle w (graph.trans v x w e (reaches_edge graph p compatible.edge x w i l r)) o)
    ]

    pub path_length : (j x : ℕ) → E v x → 1 ≤ iterate p j x → j ≤ n
    path_length j x e h = elim (dec_le j n) [
      | yes l ↦ l
      | no d ↦ absurd (omega (arith, ends x e, iterate_before graph p compatible.edge j n x (omega arith) h))
    ]

    path_fits : (b : ℕ) → Head E p v b → ((w : ℕ) → Reaches p b v → E v w → Reaches p b w) → Fits E p v b
    path_fits b h cycle =
        record {
          edge = h.0;
          cycle = cycle;
          keeps = λ w e. inr (basin_edge b w h.0 e);
          single = λ x a c q. h.1 x a q;
        }

    path_node : (j b : ℕ) → Head E p v b → 1 ≤ iterate p j b → E v (iterate p j b)
    path_node j b h l = graph.trans v b (iterate p j b) h.0 (iterate-edge graph p compatible.edge j b (graph.right v b h.0) l)

    -- a head is on no path further on
    head-not_after : (j b c : ℕ) → Head E p v b → Head E p v c → b ≡ iterate p (suc j) c → ⊥
    head-not_after j b c h k e =
        let range = graph.node b (graph.right v b h.0) in
        let l : 1 ≤ iterate p j c = iterate_before graph p compatible.edge (suc j) j c (omega arith) (omega arith) in
        h.1 (iterate p j c) (path_node j c k l) (sym (e ∙ iterate-suc p j c))

    -- two paths have no node in common
    heads_equal : (i j b c : ℕ) → Head E p v b → Head E p v c → 1 ≤ iterate p i b → iterate p i b ≡ iterate p j c → b ≡ c
    unfolding iterate
    heads_equal zero zero b c h k l e = e
    heads_equal zero (suc j) b c h k l e = absurd (head-not_after j b c h k e)
    heads_equal (suc i) zero b c h k l e = absurd (head-not_after i c b k h (sym e))
    heads_equal (suc i) (suc j) b c h k l e =
        let y = iterate p i b in
        let z = iterate p j c in
        let m : 1 ≤ y = iterate_before graph p compatible.edge (suc i) i b (omega arith) l in
        let o : 1 ≤ z = iterate_before graph p compatible.edge (suc j) j c (omega arith) (omega arith) in
        let f : E v y = path_node i b h m in
        let g : E v z = path_node j c k o in
        let q : p y ≡ p z = sym (iterate-suc p i b) ∙ e ∙ iterate-suc p j c in
        heads_equal i j b c h k m (compatible.single y z (basin_edge y z f g) (basin_edge z y g f) (omega (arith, iterate-suc p i b)) q)

    pub one_path : (b c : ℕ) → Head E p v b → Head E p v c → Reaches p b v → Reaches p c v → b ≡ c
    unfolding Reaches
    one_path b c h k r s =
        let positive = graph.node v node in
        heads_equal r.0 s.0 b c h k (omega (arith, r.1)) (r.1 ∙ sym s.1)

    -- each node is on the path from a head
    module _ (head-or_linked : (b : ℕ) → E v b → Head E p v b ⊎ ((x : ℕ) × E v x × (p x ≡ b))) where
      -- going back from w for k links, a head is met or not
      abbrev Back : ℕ → ℕ → Type 0
      Back w k = ((b : ℕ) × Head E p v b × Reaches p b w) ⊎ ((x : ℕ) × E v x × (iterate p k x ≡ w))

      back_from : (k w : ℕ) → E v w → Back w k
      unfolding Reaches iterate
      back_from zero w e = inr (w, e, refl)
      back_from (suc k) w e = go (back_from k w e)
        where
          go : Back w k → Back w (suc k)
          go (inl r) = inl r
          go (inr (x, f, q)) = ⊎_elim (λ h. inl (x, h, (k, q))) (λ (y, g, c). inr (y, g, ap (iterate p k) c ∙ q)) (head-or_linked x f)

      pub head_of : (w : ℕ) → E v w → (b : ℕ) × Head E p v b × Reaches p b w
      head_of w e =
          ⊎_elim (λ r. r) (λ (x, f, q). let range = graph.node w (graph.right v w e) in absurd (omega (arith, ends x f, q))) (back_from n w e)

      -- b begins the only path, which then has all nodes
      pub only-head_fits : (b : ℕ) → Head E p v b → ((c : ℕ) → Head E p v c → c ≡ b) → Fits E p v b
      only-head_fits b h only = path_fits b h (λ w r e. let (c, k, s) = head_of w e in rw (only c k) at s)

    -- b begins a path without v
    pub other_head_fits : (b : ℕ) → Head E p v b → (Reaches p b v → ⊥) → Fits E p v b
    other_head_fits b h d = path_fits b h (λ w r e. absurd (d r))
