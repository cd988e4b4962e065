-- From a heap with cut links back to the link at the start: each cut leads to what it led to, as its old name says.
use Prim.Native.Nat.{ℕ, ◌<◌}
use native.Mathlib.Omega.{arith}
use native.Mathlib.Decide.{ℕ_discrete}
use mathlib.Core.Path.{◌≡◌, refl, sym, ap, ◌∙◌, subst, fun_ext}
use mathlib.Core.Logic.{◌⊎◌, ⊎_elim, inl, inr}
use mathlib.Core.Bool.{Bool}
use Rattle.logic.specs.Search.{from}
use Rattle.theory.proofs.Basics.Search.{from_intro}
use Rattle.theory.proofs.Basics.Compare.{cond-false, le_cases}
use Rattle.cut_theory.specs.Versions.{version, cut}
use Rattle.cut_theory.specs.Trees.{Tree, same, differ, both, Cuts, active_tree, target_name, read_tree, Holds}
use Rattle.cut_theory.proofs.Jumps.{IsCut}
use Rattle.cut_theory.proofs.Versions.{version_else, version_last, last_below, cut-decided, cut_stays, uncut_goes, not-below, active_first}
use Rattle.cut_theory.proofs.Trees.{some_holds, every_holds, active_holds}

-- Cuts lead to themselves, and two cuts that are one node have one old target: "what stood there at first counts once".
pub record Restorable (h c w : ℕ → ℕ) (n : ℕ) : Type 0 where
  pub loop : (k : ℕ) → k < n → h (c k) ≡ c k
  pub agree : (k m : ℕ) → k < n → m < n → c k ≡ c m → w k ≡ w m

module _ (h c w : ℕ → ℕ) (n : ℕ) (r : Restorable h c w n) where
  pub restored_old : (k : ℕ) → k < n → version h c w n (c k) ≡ w k
  restored_old k l =
      ⊎_elim
      (λ m. ap (version h c w n) (sym m.2) ∙ version_last h c w n m.0 m.1 (λ j x y e. m.3 j x y (sym e ∙ m.2)) ∙ r.agree m.0 k m.1 l m.2)
      (λ none. absurd (none k l refl))
      (last_below (λ m. c m ≡ c k) (λ m. elim (ℕ_discrete (c m) (c k)) [ yes e ↦ inl e | no d ↦ inr d ]) n)

  pub restored_else : (v : ℕ) → (IsCut c n v → ⊥) → version h c w n v ≡ h v
  restored_else v x = version_else h c w n v (λ i l e. x (i, l, sym e))

  -- cut again it is the heap's link
  pub restored_cut : cut (version h c w n) c n ≡ h
  restored_cut =
      fun_ext (λ v. ⊎_elim
      (λ x. cut_stays (version h c w n) c n v x ∙ sym x.2 ∙ sym (r.loop x.0 x.1) ∙ ap h x.2)
      (λ x. uncut_goes (version h c w n) c n v x ∙ restored_else v x)
      (cut-decided c n v))

  -- what is true of all old targets and of what the heap's link leads to is true of the link at the start
  pub restored_all : (Q : ℕ → Type 0) (v : ℕ) → ((k : ℕ) → k < n → c k ≡ v → Q (w k)) → Q (h v) → Q (version h c w n v)
  restored_all Q v x y =
      ⊎_elim
      (λ z. subst Q (sym (restored_old z.0 z.1) ∙ ap (version h c w n) z.2) (x z.0 z.1 z.2))
      (λ z. subst Q (sym (restored_else v z)) y)
      (cut-decided c n v)

-- A link that is cut and restored is what it was.
pub cut_restored : (f c : ℕ → ℕ) (n : ℕ) → version (cut f c n) c (λ k. f (c k)) n ≡ f
cut_restored f c n =
    fun_ext (λ v. ⊎_elim
    (λ x. ap g (sym x.2) ∙ restored_old (cut f c n) c (λ k. f (c k)) n own x.0 x.1 ∙ ap f x.2)
    (λ x. restored_else (cut f c n) c (λ k. f (c k)) n own v x ∙ uncut_goes f c n v x)
    (cut-decided c n v))
  where
    g : ℕ → ℕ
    g = version (cut f c n) c (λ k. f (c k)) n

    own : Restorable (cut f c n) c (λ k. f (c k)) n
    own = record { loop = λ k l. cut_stays f c n (c k) (k, l, refl); agree = λ k m l l' e. ap f e }

-- Old names that are read at the start, at each cut: two cuts that are one node agree.
module _ {A : Type 0} (node : A → ℕ) (h : ℕ → ℕ) (first : ℕ → Bool) (c : Cuts A) (reads : (k : ℕ) → k < c.number → Holds node h first (read_tree c 0 (c.cut k) (c.old k))) where
  abbrev at_cut : ℕ → ℕ
  at_cut k = node (c.cut k)

  -- the first cut that is its node
  abbrev FirstOf : ℕ → Type 0
  FirstOf k = (m : ℕ) × (at_cut m ≡ at_cut k) × ((j : ℕ) → j < m → at_cut j ≡ at_cut m → ⊥) × (node (c.old m) ≡ node (c.old k))

  -- at the start every jump leads to what stood there
  at_first : (i : ℕ) → target_name c 0 i ≡ c.old i
  unfolding target_name
  at_first i = cond-false _ _ (not-below at_cut 0 i (omega arith))

  first_of_lem : (k : ℕ) → k < c.number → FirstOf k
  first_of_lem k l = go (reads k l)
    where
      n : ℕ
      n = c.number

      at_cut' : ℕ → Tree A
      at_cut' i = both (same (c.cut i) (c.cut k)) (both (active_tree c 0 i) (same (target_name c 0 i) (c.old k)))

      elsewhere : ℕ → Tree A
      elsewhere i = differ (c.cut i) (c.cut k)

      go : Holds node h first (read_tree c 0 (c.cut k) (c.old k)) → FirstOf k
      go x =
          unfold read_tree Holds in
          ⊎_elim
          (λ y. let q = (some_holds node h first at_cut' (from n 0)).0 y in
          (q.0, q.2.0, (active_first at_cut 0 q.0 (omega arith)).0 ((active_holds node h first c 0 q.0).0 q.2.1.0), ap node (sym (at_first q.0)) ∙ q.2.1.1))
          (λ y. absurd ((every_holds node h first elsewhere (from n 0)).0 y.0 k (from_intro n 0 k (omega arith) (omega (arith, l))) refl))
          x

  pub olds_agree : (k m : ℕ) → k < c.number → m < c.number → at_cut k ≡ at_cut m → node (c.old k) ≡ node (c.old m)
  olds_agree k m l l' e =
      let x = first_of_lem k l in
      let y = first_of_lem m l' in
      let one : at_cut x.0 ≡ at_cut y.0 = x.1 ∙ e ∙ sym y.1 in
      sym x.3 ∙ ap (λ (j : ℕ). node (c.old j)) (only x.0 y.0 one x.2 y.2) ∙ y.3
    where
      only : (i j : ℕ) → at_cut i ≡ at_cut j → ((a : ℕ) → a < i → at_cut a ≡ at_cut i → ⊥) → ((a : ℕ) → a < j → at_cut a ≡ at_cut j → ⊥) → i ≡ j
      only i j e f g = elim (ℕ_discrete i j) [
        | yes q ↦ q
        | no d ↦ ⊎_elim (λ k. absurd (g i (omega (arith, k, d)) e)) (λ k. absurd (f j k (sym e))) (le_cases i j)
      ]
