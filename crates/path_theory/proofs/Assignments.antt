-- The link at a point is a version of the link at the start: after as many assignments as the path has made by then, of all that it makes.
use Prim.Native.Nat.{ℕ, zero, suc, ◌≤◌, ◌<◌}
use native.Mathlib.Omega.{arith}
use mathlib.Core.Path.{◌≡◌, refl, sym, ap, ◌∙◌, subst}
use mathlib.Core.Logic.{◌⊎◌, ◌↔◌}
use mathlib.Core.Bool.{cond}
use mathlib.Core.List.{List}
use lib.Dec.{eqb}
use Rattle.logic.specs.Heap.{Reaches}
use Rattle.theory.proofs.Basics.Compare.{eqb_self, eqb-false, cond-true, cond-false}
use Rattle.between.specs.Meaning.{Between}
use Rattle.between.proofs.Until.{Nothing}
use Rattle.routine_logic.specs.State.{State, changed}
use Rattle.cut_theory.specs.Versions.{version}
use Rattle.cut_theory.proofs.Jumps.{IsCut}
use Rattle.cut_theory.proofs.Versions.{Ways, ReadAtCut, ReadElsewhere, reaches_version, between_version, read_version}
use Rattle.path_theory.specs.Points.{Name, Stores, none, store, node_of, link_of}
use Rattle.path_theory.specs.Assignments.{count, assigned_at, value_at, Begins, whole, longer}

-- versions by assignments that agree
pub version_alike : (f x y x' y' : ℕ → ℕ) (j : ℕ) → ((k : ℕ) → k < j → x k ≡ x' k) → ((k : ℕ) → k < j → y k ≡ y' k) → version f x y j ≡ version f x' y' j
unfolding version
version_alike f x y x' y' zero h k = refl
version_alike f x y x' y' (suc j) h k =
    ap (λ (g : ℕ → ℕ). changed g (x j) (y j)) (version_alike f x y x' y' j (λ i l. h i (omega arith)) (λ i l. k i (omega arith)))
    ∙ ap (λ (z : ℕ). changed (version f x' y' j) z (y j)) (h j (omega arith))
    ∙ ap (changed (version f x' y' j) (x' j)) (k j (omega arith))

pub begins_count : {w v : Stores} → Begins w v → count w ≤ count v
unfolding count
begins_count whole = omega arith
begins_count (longer b) = let l = begins_count b in omega (arith, l)

-- the first assignments are those of the beginning
module _ (get : Stores → ℕ → Name) (one : Name → Name → Name) (last : (w : Stores) (a b : Name) (k : ℕ) → get (store w a b) k ≡ cond (eqb k (count w)) (one a b) (get w k)) where
  begins_get : {w v : Stores} → Begins w v → (k : ℕ) → k < count w → get w k ≡ get v k
  begins_get whole k l = refl
  begins_get (longer {v = v} {a = a} {b = b} h) k l =
      begins_get h k l ∙ sym (last v a b k ∙ cond-false (one a b) (get v k) (eqb-false k (count v) (λ e. before h l e)))
    where
      before : {w v : Stores} {k : ℕ} → Begins w v → k < count w → k ≡ count v → ⊥
      before h l e = let m = begins_count h in absurd (omega (arith, m, l, e))

module _ (s : State) (nodes : List ℕ) (i : ℕ) where
  -- what the assignments w of a path are to, and what they give, as nodes
  abbrev pub cuts_of : Stores → ℕ → ℕ
  cuts_of w k = node_of s nodes (assigned_at w k)

  abbrev pub values_of : Stores → ℕ → ℕ
  values_of w k = node_of s nodes (value_at w k)

  last_assigned : (w : Stores) (a b : Name) → assigned_at (store w a b) (count w) ≡ a
  unfolding assigned_at
  last_assigned w a b = cond-true a (assigned_at w (count w)) (eqb_self (count w))

  last_value : (w : Stores) (a b : Name) → value_at (store w a b) (count w) ≡ b
  unfolding value_at
  last_value w a b = cond-true b (value_at w (count w)) (eqb_self (count w))

  pub begins_assigned : {w v : Stores} → Begins w v → (k : ℕ) → k < count w → assigned_at w k ≡ assigned_at v k
  begins_assigned h k l = begins_get assigned_at (λ a b. a) (λ w a b k. unfold assigned_at in refl) h k l

  pub begins_value : {w v : Stores} → Begins w v → (k : ℕ) → k < count w → value_at w k ≡ value_at v k
  begins_value h k l = begins_get value_at (λ a b. b) (λ w a b k. unfold value_at in refl) h k l

  -- by its own assignments
  own-version : (w : Stores) → link_of s nodes i w ≡ version (s.link i) (cuts_of w) (values_of w) (count w)
  unfolding link_of version count
  own-version none = refl
  own-version (store w a b) =
      ap (λ (g : ℕ → ℕ). changed g (node_of s nodes a) (node_of s nodes b))
      (own-version w ∙ version_alike (s.link i) _ _ _ _ (count w)
      (λ k l. ap (node_of s nodes) (begins_assigned (longer whole) k l)) (λ k l. ap (node_of s nodes) (begins_value (longer whole) k l)))
      ∙ ap (λ (z : Name). changed (version (s.link i) (cuts_of (store w a b)) (values_of (store w a b)) (count w)) (node_of s nodes z) (node_of s nodes b)) (sym (last_assigned w a b))
      ∙ ap (λ (z : Name). changed (version (s.link i) (cuts_of (store w a b)) (values_of (store w a b)) (count w)) (cuts_of (store w a b) (count w)) (node_of s nodes z)) (sym (last_value w a b))

  -- by the assignments of the whole path, of which it has made the first
  pub link-version : {w v : Stores} → Begins w v → link_of s nodes i w ≡ version (s.link i) (cuts_of v) (values_of v) (count w)
  link-version {w} {v} h =
      own-version w ∙ version_alike (s.link i) _ _ _ _ (count w)
      (λ k l. ap (node_of s nodes) (begins_assigned h k l)) (λ k l. ap (node_of s nodes) (begins_value h k l))

  -- Cuts of the whole path: the nodes that it assigns, in order, and further ones behind them. Every link along the path is said by one cut link and jumps.
  module _ (v : Stores) (c : ℕ → ℕ) (n : ℕ) (few : count v ≤ n) (own : (k : ℕ) → k < count v → c k ≡ cuts_of v k) where
    pub along_below : {w : Stores} → Begins w v → count w ≤ n
    along_below h = let l = begins_count h in omega (arith, l, few)

    pub cut_version : {w : Stores} → Begins w v → link_of s nodes i w ≡ version (s.link i) c (values_of v) (count w)
    cut_version {w} h =
        let l = begins_count h in
        link-version h ∙ version_alike (s.link i) _ _ _ _ (count w) (λ k m. sym (own k (omega (arith, l, m)))) (λ k m. refl)

    pub reaches_along : {w : Stores} (h : Begins w v) (a b : ℕ) →
        Reaches (link_of s nodes i w) a b ↔ Ways (s.link i) c (values_of v) n (count w) (along_below h) Nothing a b
    reaches_along {w} h a b =
        let r = reaches_version (s.link i) c (values_of v) n (count w) (along_below h) a b in
        (λ x. r.0 (subst (λ (f : ℕ → ℕ). Reaches f a b) (cut_version h) x), λ x. subst (λ (f : ℕ → ℕ). Reaches f a b) (sym (cut_version h)) (r.1 x))

    pub between_along : {w : Stores} (h : Begins w v) (a b z : ℕ) → IsCut c n z →
        Between (link_of s nodes i w) a b z ↔
        (Ways (s.link i) c (values_of v) n (count w) (along_below h) (λ u. u ≡ z) a b × Ways (s.link i) c (values_of v) n (count w) (along_below h) Nothing a z)
    between_along {w} h a b z k =
        let r = between_version (s.link i) c (values_of v) n (count w) (along_below h) a b z k in
        (λ x. r.0 (subst (λ (f : ℕ → ℕ). Between f a b z) (cut_version h) x), λ x. subst (λ (f : ℕ → ℕ). Between f a b z) (sym (cut_version h)) (r.1 x))

    pub read_along : {w : Stores} (h : Begins w v) (a r : ℕ) → (link_of s nodes i w a ≡ r) ↔
        (ReadAtCut (s.link i) c (values_of v) n (count w) (along_below h) a r ⊎ ReadElsewhere (s.link i) c (values_of v) n (count w) (along_below h) a r)
    read_along {w} h a r =
        let x = read_version (s.link i) c (values_of v) n (count w) (along_below h) a r in
        (λ y. x.0 (sym (ap (λ (f : ℕ → ℕ). f a) (cut_version h)) ∙ y), λ y. ap (λ (f : ℕ → ℕ). f a) (cut_version h) ∙ x.1 y)
