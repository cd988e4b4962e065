-- The trees say what they are made for, in every heap.
use Prim.Native.Nat.{ℕ, zero, suc, ◌≤◌, ◌<◌}
use native.Mathlib.Omega.{arith}
use native.Mathlib.Decide.{ℕ_discrete}
use mathlib.Core.Path.{◌≡◌, refl, sym, ap, ◌∙◌, subst}
use mathlib.Core.Logic.{◌⊎◌, ◌↔◌, ⊎_elim, inl, inr}
use mathlib.Core.Bool.{Bool, true, false, not, cond, false≢true}
use mathlib.Core.List.Memᴰ
use mathlib.Core.List.{List, [], ◌∷◌, Memᴰ}
use lib.Dec.{eqb, ltb}
use Rattle.logic.specs.Search.{from}
use Rattle.logic.specs.Heap.{Reaches}
use Rattle.theory.proofs.Basics.Search.{select-mem, from-mem, from_intro}
use Rattle.theory.proofs.Basics.Compare.{ltb-true, ltb_intro, cond-true, cond-false, le_cases}
use Rattle.between.specs.Meaning.{Between}
use Rattle.between.proofs.Until.{Nothing}
use Rattle.routine_logic.specs.Formulas.{same_truth}
use Rattle.cut_theory.specs.Versions.{version, cut, target, active}
use Rattle.cut_theory.specs.Jumps.{without, Jumps}
use Rattle.cut_theory.specs.Trees.{Tree, yes_tree, no_tree, same, differ, far, leads, both, either, every, some_tree, Cuts, active_tree}
use Rattle.cut_theory.specs.Trees.{target_name, avoiding, reach_tree, reaches_tree, between_tree, read_tree, Mark, flag_tree, flag_after, Holds}
use Rattle.cut_theory.proofs.Jumps.{IsCut}
use Rattle.cut_theory.proofs.Versions.{Ways, ReadAtCut, ReadElsewhere, changed_here, changed_else, active_last, active_first, not-below, reaches_version, between_version, read_version}

pub without-mem : (i k : ℕ) (left : List ℕ) → Memᴰ k (without i left) → Memᴰ k left
unfolding without
without-mem i k left mem = (select-mem (λ j. not (eqb j i)) k left mem).0

module _ {A : Type 0} (node : A → ℕ) (h : ℕ → ℕ) (first : ℕ → Bool) where
  pub every_holds : (f : ℕ → Tree A) (is : List ℕ) → Holds node h first (every f is) ↔ ((i : ℕ) → Memᴰ i is → Holds node h first (f i))
  unfolding every Holds
  every_holds f [] = (λ x i m. absurd (Memᴰ.not-nil m), λ x. tt)
  every_holds f (j ∷ is) =
      let r = every_holds f is in (
        λ x i m. ⊎_elim (λ e. subst (λ (k : ℕ). Holds node h first (f k)) (sym e) x.0) (λ m'. r.0 x.1 i m') (Memᴰ.cases_cons m),
        λ x. (x j (Memᴰ.head refl), r.1 (λ i m. x i (Memᴰ.tail m))),
      )

  pub some_holds : (f : ℕ → Tree A) (is : List ℕ) → Holds node h first (some_tree f is) ↔ ((i : ℕ) × Memᴰ i is × Holds node h first (f i))
  unfolding some_tree Holds
  some_holds f [] = (λ x. absurd x, λ x. absurd (Memᴰ.not-nil x.1))
  some_holds f (j ∷ is) =
      let r = some_holds f is in (
        ⊎_elim (λ y. (j, Memᴰ.head refl, y)) (λ y. let q = r.0 y in (q.0, Memᴰ.tail q.1, q.2)),
        λ y. ⊎_elim (λ e. inl (subst (λ (k : ℕ). Holds node h first (f k)) e y.2)) (λ m. inr (r.1 (y.0, m, y.2))) (Memᴰ.cases_cons y.1),
      )

  -- Cuts that count

  module _ (c : Cuts A) where
    abbrev pub cut_node : ℕ → ℕ
    cut_node i = node (c.cut i)

    -- a test of numbers in front of a literal
    when : (b : Bool) (x y : A) → Holds node h first (cond b (differ x y) yes_tree) ↔ (b ≡ true → node x ≡ node y → ⊥)
    unfolding Holds
    when true x y = (λ k e. k, λ k. k refl)
    when false x y = (λ k e. absurd (false≢true e), λ k. tt)

    pub active_holds : (j i : ℕ) → Holds node h first (active_tree c j i) ↔ (active cut_node j i ≡ true)
    unfolding active_tree
    active_holds j i = ⊎_elim earliest last (le_cases j i)
      where
        behind : ℕ → Tree A
        behind m = cond (ltb i m) (differ (c.cut m) (c.cut i)) yes_tree

        before : ℕ → Tree A
        before m = differ (c.cut m) (c.cut i)

        last : i < j → Holds node h first (cond (ltb i j) (every behind (from j 0)) (every before (from i 0))) ↔ (active cut_node j i ≡ true)
        last l =
            let e : cond (ltb i j) (every behind (from j 0)) (every before (from i 0)) ≡ every behind (from j 0) = cond-true _ _ (ltb_intro l) in
            let r = every_holds behind (from j 0) in
            let a = active_last cut_node j i l in (
              λ x. a.1 (λ m k k' z. (when (ltb i m) (c.cut m) (c.cut i)).0 (r.0 (subst (Holds node h first) e x) m (from_intro j 0 m (omega arith) (omega (arith, k')))) (ltb_intro k) z),
              λ x. subst (Holds node h first) (sym e) (r.1 (λ m mem. (when (ltb i m) (c.cut m) (c.cut i)).1
                  (λ k z. let q = from-mem j 0 m mem in a.0 x m (ltb-true i m k) (omega (arith, q.1)) z))),
            )

        earliest : j ≤ i → Holds node h first (cond (ltb i j) (every behind (from j 0)) (every before (from i 0))) ↔ (active cut_node j i ≡ true)
        earliest l =
            let e : cond (ltb i j) (every behind (from j 0)) (every before (from i 0)) ≡ every before (from i 0) = cond-false _ _ (not-below cut_node j i l) in
            let r = every_holds before (from i 0) in
            let a = active_first cut_node j i l in (
              λ x. a.1 (λ m k z. differ_elim m (r.0 (subst (Holds node h first) e x) m (from_intro i 0 m (omega arith) (omega (arith, k)))) z),
              λ x. subst (Holds node h first) (sym e) (r.1 (λ m mem. let q = from-mem i 0 m mem in differ_intro m (a.0 x m (omega (arith, q.1))))),
            )
          where
            differ_elim : (m : ℕ) → Holds node h first (before m) → cut_node m ≡ cut_node i → ⊥
            differ_elim m x = unfold Holds in x

            differ_intro : (m : ℕ) → (cut_node m ≡ cut_node i → ⊥) → Holds node h first (before m)
            differ_intro m x = unfold Holds in x

    -- Where jumps lead: the old names stand for what the link led to at first
    abbrev pub value_node : ℕ → ℕ
    value_node i = node (c.value i)

    module _ (f : ℕ → ℕ) (olds : (i : ℕ) → i < c.number → node (c.old i) ≡ f (cut_node i)) (j : ℕ) where
      target-node : (i : ℕ) → i < c.number → node (target_name c j i) ≡ target f cut_node value_node j i
      unfolding target_name target
      target-node i l = go (ltb i j)
        where
          go : (b : Bool) → node (cond b (c.value i) (c.old i)) ≡ cond b (value_node i) (f (cut_node i))
          go true = refl
          go false = olds i l

      -- what is to be avoided, as nodes
      module _ (zs : List A) (Avoid : ℕ → Type 0) (avoids : (x : A) → Holds node h first (avoiding zs x) ↔ (Avoid (node x) → ⊥)) where
        abbrev Ways' : ℕ → List ℕ → ℕ → ℕ → Type 0
        Ways' = Jumps h cut_node (target f cut_node value_node j) (active cut_node j) Avoid

        pub reach_holds : (m : ℕ) (left : List ℕ) (a b : A) → ((i : ℕ) → Memᴰ i left → i < c.number) → Holds node h first (reach_tree c j zs m left a b) ↔ Ways' m left (node a) (node b)
        unfolding reach_tree Holds Jumps
        reach_holds zero left a b low = (λ x. x, λ x. x)
        reach_holds (suc m) left a b low =
            let still : (i k : ℕ) → Memᴰ k (without i left) → k < c.number = λ i k mem. low k (without-mem i k left mem) in
            let jump : ℕ → Tree A = λ i. both (far a (c.cut i)) (both (active_tree c j i) (both (avoiding zs (c.cut i)) (reach_tree c j zs m (without i left) (target_name c j i) b))) in
            let r = some_holds jump left in (
              ⊎_elim (λ x. inl x)
                  (λ x. let y = r.0 x in
                  let i : ℕ = y.0 in
                  inr (
                    i,
                    y.1,
                    y.2.0,
                    (active_holds j i).0 y.2.1.0,
                    (avoids (c.cut i)).0 y.2.1.1.0,
                    subst (λ (v : ℕ). Ways' m (without i left) v (node b)) (target-node i (low i y.1)) ((reach_holds m (without i left) (target_name c j i) b (still i)).0 y.2.1.1.1),
                  )),
              ⊎_elim (λ x. inl x)
                  (λ x. let i : ℕ = x.0 in
                  inr (r.1 (
                    i,
                    x.1,
                    (
                      x.2,
                      (
                        (active_holds j i).1 x.3,
                        (
                          (avoids (c.cut i)).1 x.4,
                          (reach_holds m (without i left) (target_name c j i) b (still i)).1 (subst (λ (v : ℕ). Ways' m (without i left) v (node b)) (sym (target-node i (low i x.1))) x.5),
                        ),
                      ),
                    ),
                  ))),
            )

-- In a heap with the link f, names standing for nodes, and the cuts' old names for what f leads to: the trees, of the link that is cut there, say what holds
-- of f after the first j assignments.
module _ {A : Type 0} (node : A → ℕ) (f : ℕ → ℕ) (first : ℕ → Bool) (c : Cuts A) (olds : (i : ℕ) → i < c.number → node (c.old i) ≡ f (node (c.cut i))) (j : ℕ) (below : j ≤ c.number) where
  abbrev pub cuts : ℕ → ℕ
  cuts i = node (c.cut i)

  abbrev pub values : ℕ → ℕ
  values i = node (c.value i)

  abbrev pub cut_link : ℕ → ℕ
  cut_link = cut f cuts c.number

  numbers : (i : ℕ) → Memᴰ i (from c.number 0) → i < c.number
  numbers i m = let l = from-mem c.number 0 i m in omega (arith, l.1)

  avoid_none : (x : A) → Holds node cut_link first (avoiding [] x) ↔ (Nothing (node x) → ⊥)
  unfolding avoiding Holds
  avoid_none x = (λ k z. z, λ k. tt)

  avoid_one : (z x : A) → Holds node cut_link first (avoiding (z ∷ []) x) ↔ (node x ≡ node z → ⊥)
  unfolding avoiding Holds
  avoid_one z x = (λ k. k.0, λ k. (k, tt))

  pub reaches_tree_lem : (a b : A) → Holds node cut_link first (reaches_tree c j a b) ↔ Reaches (version f cuts values j) (node a) (node b)
  unfolding reaches_tree
  reaches_tree_lem a b =
      let t = reach_holds node cut_link first c f olds j [] Nothing avoid_none c.number (from c.number 0) a b numbers in
      let r = reaches_version f cuts values c.number j below (node a) (node b) in
      (λ x. r.1 (t.0 x), λ x. t.1 (r.0 x))

  pub between_tree_lem : (a b z : A) → IsCut cuts c.number (node z) →
      Holds node cut_link first (between_tree c j a b z) ↔ Between (version f cuts values j) (node a) (node b) (node z)
  unfolding between_tree reaches_tree Holds
  between_tree_lem a b z k =
      let t = reach_holds node cut_link first c f olds j (z ∷ []) (λ v. v ≡ node z) (avoid_one z) c.number (from c.number 0) a b numbers in
      let u = reach_holds node cut_link first c f olds j [] Nothing avoid_none c.number (from c.number 0) a z numbers in
      let r = between_version f cuts values c.number j below (node a) (node b) (node z) k in
      (λ x. r.1 (t.0 x.0, u.0 x.1), λ x. let y = r.0 x in (t.1 y.0, u.1 y.1))

  pub read_tree_lem : (a r : A) → Holds node cut_link first (read_tree c j a r) ↔ (version f cuts values j (node a) ≡ node r)
  unfolding read_tree Holds
  read_tree_lem a r =
      let n : ℕ = c.number in
      let at_cut' : ℕ → Tree A = λ i. both (same (c.cut i) a) (both (active_tree c j i) (same (target_name c j i) r)) in
      let elsewhere : ℕ → Tree A = λ i. differ (c.cut i) a in
      let s = some_holds node cut_link first at_cut' (from n 0) in
      let e = every_holds node cut_link first elsewhere (from n 0) in
      let v = read_version f cuts values n j below (node a) (node r) in
      let t : (i : ℕ) → i < n → node (target_name c j i) ≡ target f cuts values j i = target-node node cut_link first c f olds j in (
        λ x. v.1 (⊎_elim
            (λ y. let q = s.0 y in
            let l = from-mem n 0 q.0 q.1 in
            inl (q.0, omega (arith, l.1), q.2.0, (active_holds node cut_link first c j q.0).0 q.2.1.0, sym (t q.0 (numbers q.0 q.1)) ∙ q.2.1.1))
            (λ y. inr (λ k. e.0 y.0 k.0 (from_intro n 0 k.0 (omega arith) (omega (arith, k.1))) k.2, y.1)) x),
        λ x. ⊎_elim
            (λ y. inl (s.1 (y.0, from_intro n 0 y.0 (omega arith) (omega (arith, y.1)), (y.2, ((active_holds node cut_link first c j y.0).1 y.3, t y.0 y.1 ∙ y.4)))))
            (λ y. inr (e.1 (λ i m k. let l = from-mem n 0 i m in y.0 (i, omega (arith, l.1), k)), y.1))
            (v.0 x),
      )

  -- a flag after assignments
  same_truth_lem : (v b : Bool) → Holds node cut_link first (cond (same_truth v b) yes_tree no_tree) ↔ (v ≡ b)
  unfolding Holds same_truth
  same_truth_lem true true = (λ x. refl, λ x. tt)
  same_truth_lem true false = (λ x. absurd x, λ x. absurd (false≢true (sym x)))
  same_truth_lem false true = (λ x. absurd x, λ x. absurd (false≢true x))
  same_truth_lem false false = (λ x. refl, λ x. tt)

  pub flag_tree_lem : (ms : List (Mark A)) (b : Bool) (a : A) → Holds node cut_link first (flag_tree ms b a) ↔ (flag_after node cut_link first ms (node a) ≡ b)
  unfolding flag_tree flag_after Holds
  flag_tree_lem [] b a = (λ x. x, λ x. x)
  flag_tree_lem (m ∷ ms) b a =
      let r = flag_tree_lem ms b a in
      let s = same_truth_lem m.value b in
      let g : ℕ → Bool = flag_after node cut_link first ms in (
        ⊎_elim
            (λ x. changed_here g (node m.name) m.value (node a) x.0 ∙ s.0 x.1)
            (λ x. changed_else g (node m.name) m.value (node a) x.0 ∙ r.0 x.1),
        λ x. elim (ℕ_discrete (node a) (node m.name)) [
          | yes e ↦ inl (e, s.1 (sym (changed_here g (node m.name) m.value (node a) e) ∙ x))
          | no d ↦ inr (d, r.1 (sym (changed_else g (node m.name) m.value (node a) d) ∙ x))
        ],
      )
