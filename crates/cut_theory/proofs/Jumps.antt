-- Reaching by a function is reaching by the cut function and jumps. Nothing is known of the functions but where they agree.
use Prim.Native.Nat.{ℕ, zero, suc, ◌+◌, ◌-◌, ◌≤◌, ◌<◌}
use native.Mathlib.Omega.{arith}
use mathlib.Core.Path.{◌≡◌, refl, sym, ap, ◌∙◌, subst}
use mathlib.Core.Logic.{◌⊎◌, ◌↔◌, ⊎_elim, inl, inr}
use mathlib.Core.Bool.{Bool, true, false, not, cond}
use mathlib.Core.List.{List, [], ◌∷◌, Memᴰ}
use lib.Dec.{eqb}
use lib.ListN.{length}
use Rattle.logic.specs.Search.{from, select}
use Rattle.logic.specs.Heap.{iterate, Reaches}
use Rattle.theory.proofs.Basics.Search.{bool_cases, select-mem, select_intro, not_intro, from-mem, from_intro}
use Rattle.theory.proofs.Basics.Compare.{eqb_intro, eqb-false}
use Rattle.theory.proofs.Basics.Count.{select-length}
use Rattle.theory.proofs.Basics.Iterate.{iterate-add, reaches_refl, reaches_step}
use Rattle.between.specs.Meaning.{MetAfter}
use Rattle.between.proofs.Until.{Until, here, on, until_trans, until_steps, met_first}
use Rattle.cut_theory.specs.Jumps.{without, Jumps}

-- Numbers without one of them

pub without_less : (i : ℕ) (is : List ℕ) → Memᴰ i is → length (without i is) < length is
unfolding without select
without_less i [] m = elim m [ ]
without_less i (j ∷ is) (Memᴰ.head e) =
    rw (ap not (eqb_intro (sym e))) (let l = select-length (λ k. not (eqb k i)) is in omega (arith, l))
without_less i (j ∷ is) (Memᴰ.tail m) = go (not (eqb j i)) (without_less i is m)
  where
    rest : List ℕ
    rest = select (λ k. not (eqb k i)) is

    go : (b : Bool) → length rest < length is → length (cond b (j ∷ rest) rest) < suc (length is)
    go true h = omega (arith, h)
    go false h = omega (arith, h)

without_intro : (i j : ℕ) (is : List ℕ) → Memᴰ j is → (j ≡ i → ⊥) → Memᴰ j (without i is)
unfolding without
without_intro i j is m d = select_intro (λ k. not (eqb k i)) j m (not_intro (eqb-false j i d))

from-length : (k i : ℕ) → length (from k i) ≤ k
unfolding from
from-length zero i = omega arith
from-length (suc k) i = let h = from-length k (suc i) in omega (arith, h)

-- on a shortest way no node comes back
no_return : (g : ℕ → ℕ) (a b k : ℕ) → MetAfter g a b k → (j : ℕ) → 1 ≤ j → j < k → iterate g j a ≡ a → ⊥
no_return g a b k met j low high back =
    met.least (k - j) (omega arith)
    (ap (iterate g (k - j)) (sym back) ∙ sym (iterate-add g j (k - j) a) ∙ ap (λ (x : ℕ). iterate g x a) (let e : j + (k - j) ≡ k = omega arith in e) ∙ met.met)

-- one of the cuts c i, for i below n
abbrev pub IsCut : (ℕ → ℕ) → ℕ → ℕ → Type 0
IsCut c n v = (i : ℕ) × (i < n) × (c i ≡ v)

-- a function g and the cut function h
module _ (g h c t : ℕ → ℕ) (acts : ℕ → Bool) (Avoid : ℕ → Type 0) (n : ℕ) where
  pub record Cutting : Type 0 where
    pub decided : (v : ℕ) → IsCut c n v ⊎ (IsCut c n v → ⊥)
    pub cut_fixed : (i : ℕ) → i < n → h (c i) ≡ c i
    pub uncut_same : (v : ℕ) → (IsCut c n v → ⊥) → h v ≡ g v
    pub active_target : (i : ℕ) → i < n → acts i ≡ true → g (c i) ≡ t i
    pub some_active : (i : ℕ) → i < n → (j : ℕ) × (j < n) × (acts j ≡ true) × (c j ≡ c i)
    pub avoided_cut : (v : ℕ) → Avoid v → IsCut c n v

  module _ (cutting : Cutting) where
    -- What h reaches, g reaches: h stays where it is cut.
    cut_until : (k a b : ℕ) → iterate h k a ≡ b → Until g Avoid a b
    unfolding iterate
    cut_until zero a b e = subst (Until g Avoid a) e here
    cut_until (suc k) a b e =
        ⊎_elim
        (λ x. let stays : h a ≡ a = ap h (sym x.2) ∙ cutting.cut_fixed x.0 x.1 ∙ x.2 in
        cut_until k a b (sym (ap (iterate h k) stays) ∙ e))
        (λ x. on (λ y. x (cutting.avoided_cut a y))
        (subst (λ v. Until g Avoid v b) (cutting.uncut_same a x) (cut_until k (h a) b e)))
        (cutting.decided a)

    pub jumps_until : (m : ℕ) (left : List ℕ) (a b : ℕ) → ((i : ℕ) → Memᴰ i left → i < n) → Jumps h c t acts Avoid m left a b → Until g Avoid a b
    unfolding Jumps Reaches without
    jumps_until zero left a b low r = cut_until r.0 a b r.1
    jumps_until (suc m) left a b low r =
        ⊎_elim
        (λ x. cut_until x.0 a b x.1)
        (λ x. until_trans g Avoid (cut_until x.2.0 a (c x.0) x.2.1)
        (on x.4 (subst (λ v. Until g Avoid v b) (sym (cutting.active_target x.0 (low x.0 x.1) x.3))
        (jumps_until m (without x.0 left) (t x.0) b (λ i z. low i (select-mem (λ j. not (eqb j x.0)) i left z).0) x.5))))
        r

    -- one step of h ahead
    step_jumps : (m : ℕ) (left : List ℕ) (a b : ℕ) → Jumps h c t acts Avoid m left (h a) b → Jumps h c t acts Avoid m left a b
    unfolding Jumps
    step_jumps zero left a b r = reaches_step h a b r
    step_jumps (suc m) left a b r =
        ⊎_elim (λ x. inl (reaches_step h a b x)) (λ x. inr (x.0, x.1, reaches_step h a (c x.0) x.2, x.3, x.4, x.5)) r

    stay_jumps : (m : ℕ) (left : List ℕ) (b : ℕ) → Jumps h c t acts Avoid m left b b
    unfolding Jumps
    stay_jumps zero left b = reaches_refl h b
    stay_jumps (suc m) left b = inl (reaches_refl h b)

    take_jump : (m : ℕ) (left : List ℕ) (a b i : ℕ) → Memᴰ i left → i < n → acts i ≡ true → c i ≡ a → (Avoid a → ⊥) → length left ≤ m →
        ((m' : ℕ) → length (without i left) ≤ m' → Jumps h c t acts Avoid m' (without i left) (g a) b) → Jumps h c t acts Avoid m left a b
    unfolding Jumps
    take_jump zero left a b i mem l act at free few rest = absurd (omega (arith, without_less i left mem, few))
    take_jump (suc m) left a b i mem l act at free few rest =
        inr (
          i,
          mem,
          subst (Reaches h a) (sym at) (reaches_refl h a),
          act,
          λ y. free (subst Avoid at y),
          subst (λ v. Jumps h c t acts Avoid m (without i left) v b) (ap g (sym at) ∙ cutting.active_target i l act)
              (rest m (omega (arith, without_less i left mem, few))),
        )

    -- On a shortest way no node comes twice, so that each cut is jumped from once: those on the way are left.
    pub steps_jumps : (k m : ℕ) (left : List ℕ) (a b : ℕ) → MetAfter g a b k → ((j : ℕ) → j < k → Avoid (iterate g j a) → ⊥) →
        length left ≤ m → ((j : ℕ) → j < k → (i : ℕ) → i < n → c i ≡ iterate g j a → Memᴰ i left) → Jumps h c t acts Avoid m left a b
    unfolding iterate
    steps_jumps zero m left a b met free few all_left = subst (Jumps h c t acts Avoid m left a) met.met (stay_jumps m left a)
    steps_jumps (suc k) m left a b met free few all_left =
        let met' : MetAfter g (g a) b k = record { met = met.met; least = λ j l. met.least (suc j) (omega arith) } in
        let free' : (j : ℕ) → j < k → Avoid (iterate g j (g a)) → ⊥ = λ j l. free (suc j) (omega arith) in
        ⊎_elim
        (λ x.
        let y = cutting.some_active x.0 x.1 in
        let i : ℕ = y.0 in
        let at : c i ≡ a = y.3 ∙ x.2 in
        take_jump m left a b i (all_left 0 (omega arith) i y.1 at) y.1 y.2 at (free 0 (omega arith)) few
        (λ m' few'. steps_jumps k m' (without i left) (g a) b met' free' few'
        (λ j l i' l' e. without_intro i i' left (all_left (suc j) (omega arith) i' l' e)
        (λ z. no_return g a b (suc k) met (suc j) (omega arith) (omega arith) (sym e ∙ ap c z ∙ at)))))
        (λ x. step_jumps m left a b
        (subst (λ v. Jumps h c t acts Avoid m left v b) (sym (cutting.uncut_same a x))
        (steps_jumps k m left (g a) b met' free' few (λ j l i l' e. all_left (suc j) (omega arith) i l' e))))
        (cutting.decided a)

    -- The theorem: g leads from a to b without passing what is to be avoided exactly if h and jumps do, each cut at most once.
    pub until_jumps : (a b : ℕ) → Until g Avoid a b ↔ Jumps h c t acts Avoid n (from n 0) a b
    until_jumps a b = (forth, jumps_until n (from n 0) a b (λ i m. let r = from-mem n 0 i m in omega (arith, r.1)))
      where
        forth : Until g Avoid a b → Jumps h c t acts Avoid n (from n 0) a b
        forth u =
            let s = until_steps g Avoid a b u in
            let f = met_first g s.0 a b s.1 in
            steps_jumps f.0 n (from n 0) a b f.2 (λ j l. s.2 j (omega (arith, f.1))) (from-length n 0)
            (λ j l i l' e. from_intro n 0 i (omega arith) (omega (arith, l')))
