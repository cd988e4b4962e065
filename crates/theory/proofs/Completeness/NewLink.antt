-- The new link of a term leaves the links compatible (000, Lemma 3, for the choice that 01 makes).
use Prim.Native.Nat.{ℕ, zero, suc, ◌≤◌, ◌<◌}
use native.Mathlib.Omega.{arith}
use native.Mathlib.Nat.{lt_irrefl}
use mathlib.Core.Path.{◌≡◌, refl, sym}
use mathlib.Core.Logic.{◌⊎◌, ⊎_elim, inl, inr, ◌↔◌}
use mathlib.Core.Bool.{Bool, true, false, not, cond}
use mathlib.Core.List.Memᴰ
use mathlib.Core.List.{List, [], ◌∷◌, Memᴰ}
use mathlib.Core.Option
use lib.ListN.{length, get_or}
use lib.Dec.{eqb}
use borrow.Author.Tests.{eqb-true, eqb-false, eq-eqb, ne_eqb}
use Rattle.logic.specs.Search.{◌and◌, ◌or◌, any, all, find}
use Rattle.logic.specs.Heap.{iterate, Reaches}
use Rattle.logic.specs.Facts.{Graph, terms}
use Rattle.logic.specs.Shown.{reached, in_basin, heads, on_path, basin_link, tree_link, new_link}
use Rattle.theory.proofs.Basics.Search.{bool_cases, true-false, not-true, not_intro, not_of, and_left, and_right}
use Rattle.theory.proofs.Basics.Search.{and_intro, or_cases, or_left, or_right, any-true, any_false, all_true}
use Rattle.theory.proofs.Basics.Search.{all_intro, all-false, select-mem, select_intro, from_intro}
use Rattle.theory.proofs.Basics.Iterate.{reaches_refl, reaches_step}
use Rattle.theory.proofs.Completeness.Saturated.{Saturated}
use Rattle.theory.proofs.Graph.BasinGraph.{Compatible, Fits}
use Rattle.theory.proofs.Graph.Pick.{Head, tree_fits, least, path_length, one_path, head_of, only-head_fits, other_head_fits}
use Rattle.theory.proofs.Graph.Ascending.{Ascending, ascending_from, ascending_select}
use Rattle.theory.proofs.Completeness.Found.{found_of}
use Rattle.theory.proofs.Completeness.KnownLinks.{Edge, basin_graph}

-- the path from b, followed for k links
module _ (p : ℕ → ℕ) (v : ℕ) where
  on_path_reaches : (k b : ℕ) → on_path p v k b ≡ true → Reaches p b v
  unfolding on_path
  on_path_reaches zero b h = rw (eqb-true b v h) (reaches_refl p v)
  on_path_reaches (suc k) b h =
      ⊎_elim (λ e. rw (eqb-true b v e) (reaches_refl p v)) (λ e. reaches_step p b v (on_path_reaches k (p b) e)) (or_cases (eqb b v) (on_path p v k (p b)) h)

  on_path_intro : (k j b : ℕ) → j ≤ k → iterate p j b ≡ v → on_path p v k b ≡ true
  unfolding on_path iterate
  on_path_intro zero zero b l e = eq-eqb b v e
  on_path_intro zero (suc j) b l e = absurd (omega arith)
  on_path_intro (suc k) zero b l e = or_left (on_path p v k (p b)) (eq-eqb b v e)
  on_path_intro (suc k) (suc j) b l e = or_right (eqb b v) (on_path_intro k j (p b) (omega arith) e)

-- the test of tree_link: u is not v and reaches all that v reaches, v alone excepted
abbrev reaches_but : Graph → ℕ → ℕ → ℕ → Bool
reaches_but g v u w = eqb w v or g.reach u w

abbrev follows : ℕ → Graph → ℕ → ℕ → Bool
follows n g v u = not (eqb u v) and all (reaches_but g v u) (reached n g v)

-- the test of heads: a link from what v reaches leads to b
abbrev has_link : ℕ → Graph → (ℕ → ℕ) → ℕ → ℕ → Bool
has_link n g p v b = any (λ u. eqb (p u) b) (reached n g v)

-- the choice of basin_link among the heads, and its test: b begins a path without v
abbrev without : ℕ → (ℕ → ℕ) → ℕ → ℕ → Bool
without n p v b = not (on_path p v n b)

abbrev head_link : ℕ → (ℕ → ℕ) → ℕ → List ℕ → ℕ
head_link n p v hs = cond (eqb (length hs) 1) (get_or hs 0 0) (Option.get_or (find (without n p v) hs) 0)

module _ {n : ℕ} {vs : List ℕ} {g : Graph} (sat : Saturated n vs g) where
  reached_edge : (v x : ℕ) → Memᴰ x (reached n g v) → Edge g v x
  unfolding reached
  reached_edge v x m = (select-mem (g.reach v) x (terms n) m).1

  reached_intro : (v x : ℕ) → Edge g v x → Memᴰ x (reached n g v)
  unfolding reached terms
  reached_intro v x e =
      let range = (basin_graph sat).node x ((basin_graph sat).right v x e) in
      select_intro (g.reach v) x (from_intro n 1 x range.0 (omega arith)) e

  module _ {p : ℕ → ℕ} (compatible : Compatible (Edge g) p) (v : ℕ) (node : Edge g v v) (undefined : p v ≡ 0) where
    follows_intro : (u : ℕ) → (u ≡ v → ⊥) → ((w : ℕ) → Memᴰ w (reached n g v) → (v ≡ w) ⊎ Edge g u w) → follows n g v u ≡ true
    follows_intro u d k =
        and_intro (not_intro (ne_eqb u v d))
        (all_intro (reaches_but g v u) (reached n g v) (λ w m. ⊎_elim (λ e. or_left (g.reach u w) (eq-eqb w v (sym e))) (λ e. or_right (eqb w v) e) (k w m)))

    follows_apart : (u : ℕ) → follows n g v u ≡ true → u ≡ v → ⊥
    follows_apart u t = eqb-false u v (not-true (and_left (not (eqb u v)) (all (reaches_but g v u) (reached n g v)) t))

    follows_keeps : (u : ℕ) → follows n g v u ≡ true → (w : ℕ) → Edge g v w → (v ≡ w) ⊎ Edge g u w
    follows_keeps u t w e =
        let each = and_right (not (eqb u v)) (all (reaches_but g v u) (reached n g v)) t in
        ⊎_elim (λ q. inl (sym (eqb-true w v q))) (λ q. inr q)
        (or_cases (eqb w v) (g.reach u w) (all_true (reaches_but g v u) w each (reached_intro v w e)))

    -- outside a basin
    module _ (z : ℕ) (out : Edge g v z) (away : Edge g z v → ⊥) where
      tree_link-found : Memᴰ (tree_link n g v) (reached n g v) × (follows n g v (tree_link n g v) ≡ true)
      unfolding tree_link
      tree_link-found =
          let (u, (f, d, e, k)) = least (basin_graph sat) v (reached n g v) z (reached_edge v) out (λ e. away (rw e node)) in
          found_of (follows n g v) (reached n g v) u (reached_intro v u f) (follows_intro u d k)

      tree_link-fits : Fits (Edge g) p v (tree_link n g v)
      tree_link-fits =
          let u = tree_link n g v in
          let (m, t) = tree_link-found in
          tree_fits (basin_graph sat) compatible v node undefined z out away u (reached_edge v u m) (follows_apart u t) (follows_keeps u t)

    -- in a basin
    module _ (back : (x : ℕ) → Edge g v x → Edge g x v) where
      has_link-true : (b : ℕ) → has_link n g p v b ≡ true → (x : ℕ) × Edge g v x × (p x ≡ b)
      has_link-true b t = let (x, m, q) = any-true (λ u. eqb (p u) b) (reached n g v) t in (x, reached_edge v x m, eqb-true (p x) b q)

      has_link-false : (b : ℕ) → has_link n g p v b ≡ false → (x : ℕ) → Edge g v x → p x ≡ b → ⊥
      has_link-false b t x e q = true-false (eq-eqb (p x) b q) (any_false (λ u. eqb (p u) b) x t (reached_intro v x e))

      head-or_linked : (b : ℕ) → Edge g v b → Head (Edge g) p v b ⊎ ((x : ℕ) × Edge g v x × (p x ≡ b))
      head-or_linked b e = ⊎_elim (λ t. inr (has_link-true b t)) (λ t. inl (e, has_link-false b t)) (bool_cases (has_link n g p v b))

      heads-mem : (b : ℕ) → Memᴰ b (heads p (reached n g v)) ↔ Head (Edge g) p v b
      unfolding heads
      heads-mem b = (
        λ m. let (i, t) = select-mem (λ b. not (has_link n g p v b)) b (reached n g v) m in (reached_edge v b i, has_link-false b (not-true t)),
        λ k. select_intro (λ b. not (has_link n g p v b)) b (reached_intro v b k.0) (not_intro (not_of (λ t. let (x, e, q) = has_link-true b t in k.1 x e q))),
      )

      heads_ascending : Ascending 1 (heads p (reached n g v))
      unfolding heads reached terms
      heads_ascending =
          ascending_select (λ b. not (has_link n g p v b)) 1 (reached n g v) (ascending_select (g.reach v) 1 (terms n) (ascending_from n 1))

      -- a path ends within n links, so that n are enough to look for v
      on_path-false : (b : ℕ) → Edge g v b → on_path p v n b ≡ false → Reaches p b v → ⊥
      unfolding Reaches
      on_path-false b e f r =
          let range = (basin_graph sat).node v node in
          let l = path_length (basin_graph sat) compatible v node undefined back r.0 b e (omega (arith, r.1)) in
          true-false (on_path_intro p v n r.0 b l r.1) f

      -- two paths have no term in common, so of two heads one begins a path without v
      head-without : (b c : ℕ) → Head (Edge g) p v b → Head (Edge g) p v c → b < c → on_path p v n b ≡ true → on_path p v n c ≡ false
      head-without b c k l lt t = not_of (λ s. lt_irrefl b (rw (← same s) at lt))
        where
          same : on_path p v n c ≡ true → b ≡ c
          same s = one_path (basin_graph sat) compatible v node undefined back b c k l (on_path_reaches p v n b t) (on_path_reaches p v n c s)

      head_link-fits : (hs : List ℕ) → Ascending 1 hs → ((b : ℕ) → Memᴰ b hs ↔ Head (Edge g) p v b) → Fits (Edge g) p v (head_link n p v hs)
      head_link-fits [] a h =
          let (b, k, r) = head_of (basin_graph sat) compatible v node undefined back head-or_linked v node in
          absurd (Memᴰ.not-nil ((h b).1 k))
      head_link-fits (b ∷ []) a h =
          only-head_fits (basin_graph sat) compatible v node undefined back head-or_linked b ((h b).0 (Memᴰ.head refl)) (λ c k. Memᴰ.eq_of_singleton ((h c).1 k))
      head_link-fits (b ∷ c ∷ hs) a h = rw (ne_eqb (suc (suc (length hs))) 1 (λ e. omega arith)) (fits (bool_cases (on_path p v n b)))
        where
          first : Memᴰ b (b ∷ c ∷ hs)
          first = Memᴰ.head refl

          second : Memᴰ c (b ∷ c ∷ hs)
          second = Memᴰ.tail (Memᴰ.head refl)

          found : (on_path p v n b ≡ true) ⊎ (on_path p v n b ≡ false) → (d : ℕ) × Memᴰ d (b ∷ c ∷ hs) × (without n p v d ≡ true)
          found (inl t) = (c, second, not_intro (head-without b c ((h b).0 first) ((h c).0 second) a.1.0 t))
          found (inr t) = (b, first, not_intro t)

          fits : (on_path p v n b ≡ true) ⊎ (on_path p v n b ≡ false) → Fits (Edge g) p v (Option.get_or (find (without n p v) (b ∷ c ∷ hs)) 0)
          fits t =
              let u = Option.get_or (find (without n p v) (b ∷ c ∷ hs)) 0 in
              let (d, m, s) = found t in
              let (i, q) = found_of (without n p v) (b ∷ c ∷ hs) d m s in
              other_head_fits (basin_graph sat) compatible v node undefined back u ((h u).0 i) (on_path-false u ((h u).0 i).0 (not-true q))

      basin_link-fits : Fits (Edge g) p v (basin_link n p (reached n g v) v)
      unfolding basin_link
      basin_link-fits = head_link-fits (heads p (reached n g v)) heads_ascending heads-mem

    pub new_link-fits : Fits (Edge g) p v (new_link n g p v)
    unfolding new_link in_basin
    new_link-fits =
        ⊎_elim
        (λ h. rw h (basin_link-fits (λ x e. all_true (λ u. g.reach u v) x h (reached_intro v x e))))
        (λ h. rw h (let (z, m, a) = all-false (λ u. g.reach u v) (reached n g v) h in tree_link-fits z (reached_edge v z m) (λ e. true-false e a)))
        (bool_cases (in_basin n g v))
