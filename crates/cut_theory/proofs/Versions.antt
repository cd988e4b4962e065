-- A link after j assignments is cut at the nodes that are assigned: where cuts are active, what it leads to from them, and what it reaches.
use Prim.Native.Nat.{ℕ, zero, suc, ◌+◌, ◌-◌, ◌≤◌, ◌<◌}
use native.Mathlib.Omega.{arith}
use native.Mathlib.Decide.{ℕ_discrete}
use mathlib.Core.Path.{◌≡◌, refl, sym, ap, ◌∙◌, subst}
use mathlib.Core.Logic.{◌⊎◌, ◌↔◌, ⊎_elim, inl, inr}
use mathlib.Core.Bool.{Bool, true, false, not, cond, false≢true}
use mathlib.Core.List.{List, Memᴰ}
use lib.Dec.{eqb, ltb}
use Rattle.logic.specs.Search.{◌and◌, from, any, all}
use Rattle.logic.specs.Heap.{Reaches}
use Rattle.theory.proofs.Basics.Search.{bool_cases, not_of, and_left, and_right, true-false, not-true, not_intro, and_intro, any-true, any_intro, all_true, all_intro, from-mem, from_intro}
use Rattle.theory.proofs.Basics.Compare.{eqb-true, eqb_intro, eqb-false, ltb-true, ltb_intro, cond-true, cond-false, le_cases}
use Rattle.between.specs.Meaning.{Between}
use Rattle.between.proofs.Until.{Until, Nothing, reaches_until, between_until}
use Rattle.routine_logic.specs.State.{changed}
use Rattle.cut_theory.specs.Versions.{version, is_cut, cut, target, free_of, active}
use Rattle.cut_theory.specs.Jumps.{Jumps}
use Rattle.cut_theory.proofs.Jumps.{IsCut, Cutting, until_jumps}

-- A value that is changed

pub changed_here : {A : Type 0} (f : ℕ → A) (x : ℕ) (a : A) (v : ℕ) → v ≡ x → changed f x a v ≡ a
unfolding changed
changed_here f x a v e = cond-true a (f v) (eqb_intro e)

pub changed_else : {A : Type 0} (f : ℕ → A) (x : ℕ) (a : A) (v : ℕ) → (v ≡ x → ⊥) → changed f x a v ≡ f v
unfolding changed
changed_else f x a v d = cond-false a (f v) (eqb-false v x d)

module _ {A : Type 0} (f : ℕ → A) (x : ℕ → ℕ) (y : ℕ → A) where
  -- what is not assigned stays
  pub version_else : (j v : ℕ) → ((i : ℕ) → i < j → v ≡ x i → ⊥) → version f x y j v ≡ f v
  unfolding version
  version_else zero v h = refl
  version_else (suc j) v h = changed_else (version f x y j) (x j) (y j) v (h j (omega arith)) ∙ version_else j v (λ i l. h i (omega arith))

  -- the last assignment to a node counts
  pub version_last : (j i : ℕ) → i < j → ((m : ℕ) → i < m → m < j → x i ≡ x m → ⊥) → version f x y j (x i) ≡ y i
  unfolding version
  version_last zero i l h = absurd (omega arith)
  version_last (suc j) i l h = elim (ℕ_discrete i j) [
    | yes e ↦ changed_here (version f x y j) (x j) (y j) (x i) (ap x e) ∙ ap y (sym e)
    | no d ↦ let l' : i < j = omega (arith, l, d) in
        changed_else (version f x y j) (x j) (y j) (x i) (h j l' (omega arith)) ∙ version_last j i l' (λ m k k'. h m k (omega arith))
  ]

-- Of numbers below a bound, the first and the last of which a decided thing holds

module _ (P : ℕ → Type 0) (decide : (i : ℕ) → P i ⊎ (P i → ⊥)) where
  pub first_below : (n : ℕ) → ((i : ℕ) × (i < n) × P i × ((m : ℕ) → m < i → P m → ⊥)) ⊎ ((i : ℕ) → i < n → P i → ⊥)
  first_below zero = inr (λ i l. absurd (omega arith))
  first_below (suc n) =
      ⊎_elim
      (λ r. inl (r.0, omega (arith, r.1), r.2, r.3))
      (λ none. ⊎_elim
      (λ p. inl (n, omega arith, p, none))
      (λ q. inr (λ i l p. elim (ℕ_discrete i n) [ yes e ↦ q (subst P e p) | no d ↦ none i (omega (arith, l, d)) p ]))
      (decide n))
      (first_below n)

  pub last_below : (n : ℕ) → ((i : ℕ) × (i < n) × P i × ((m : ℕ) → i < m → m < n → P m → ⊥)) ⊎ ((i : ℕ) → i < n → P i → ⊥)
  last_below zero = inr (λ i l. absurd (omega arith))
  last_below (suc n) =
      ⊎_elim
      (λ p. inl (n, omega arith, p, λ m l l'. absurd (omega (arith, l, l'))))
      (λ q. ⊎_elim
      (λ r. inl (r.0, omega (arith, r.1), r.2, λ m l l' p. elim (ℕ_discrete m n) [ yes e ↦ q (subst P e p) | no d ↦ r.3 m l (omega (arith, l', d)) p ]))
      (λ none. inr (λ i l p. elim (ℕ_discrete i n) [ yes e ↦ q (subst P e p) | no d ↦ none i (omega (arith, l, d)) p ]))
      (last_below n))
      (decide n)

-- Cuts by a test

pub cut-true : (c : ℕ → ℕ) (n v : ℕ) → IsCut c n v → is_cut c n v ≡ true
unfolding is_cut
cut-true c n v x = any_intro (λ i. eqb (c i) v) x.0 (from_intro n 0 x.0 (omega arith) (omega (arith, x.1))) (eqb_intro x.2)

pub true-cut : (c : ℕ → ℕ) (n v : ℕ) → is_cut c n v ≡ true → IsCut c n v
unfolding is_cut
true-cut c n v e =
    let r = any-true (λ i. eqb (c i) v) (from n 0) e in
    (r.0, let l = from-mem n 0 r.0 r.1 in omega (arith, l.1), eqb-true (c r.0) v r.2)

pub cut-decided : (c : ℕ → ℕ) (n v : ℕ) → IsCut c n v ⊎ (IsCut c n v → ⊥)
cut-decided c n v = ⊎_elim (λ e. inl (true-cut c n v e)) (λ e. inr (λ x. true-false (cut-true c n v x) e)) (bool_cases (is_cut c n v))

pub cut_stays : (f c : ℕ → ℕ) (n v : ℕ) → IsCut c n v → cut f c n v ≡ v
unfolding cut
cut_stays f c n v x = cond-true v (f v) (cut-true c n v x)

pub uncut_goes : (f c : ℕ → ℕ) (n v : ℕ) → (IsCut c n v → ⊥) → cut f c n v ≡ f v
unfolding cut
uncut_goes f c n v x = ⊎_elim (λ e. absurd (x (true-cut c n v e))) (λ e. cond-false v (f v) e) (bool_cases (is_cut c n v))

-- Active cuts: of those that are assigned by then, the last of its node; of the others, the first of all

none_below : (p : ℕ → Bool) (k : ℕ) → (all (λ m. not (p m)) (from k 0) ≡ true) ↔ ((m : ℕ) → m < k → p m ≡ true → ⊥)
none_below p k = (
  λ e m l h. true-false h (not-true (all_true (λ m. not (p m)) m e (from_intro k 0 m (omega arith) (omega (arith, l))))),
  λ h. all_intro (λ m. not (p m)) (from k 0) (λ m mem. let r = from-mem k 0 m mem in not_intro (not_of (h m (omega (arith, r.1))))),
)

module _ (c : ℕ → ℕ) (j i : ℕ) where
  abbrev pub Last : Type 0
  Last = (m : ℕ) → i < m → m < j → c m ≡ c i → ⊥

  abbrev pub First : Type 0
  First = (m : ℕ) → m < i → c m ≡ c i → ⊥

  abbrev later : ℕ → Bool
  later m = ltb i m and eqb (c m) (c i)

  pub active_last : i < j → (active c j i ≡ true) ↔ Last
  unfolding active
  active_last l = (
    λ e m k k' same. (none_below later j).0 (sym (cond-true _ _ (ltb_intro l)) ∙ e) m k' (and_intro (ltb_intro k) (eqb_intro same)),
    λ h. cond-true _ _ (ltb_intro l) ∙ (none_below later j).1
        (λ m k e. h m (ltb-true i m (and_left _ _ e)) k (eqb-true (c m) (c i) (and_right (ltb i m) _ e))),
  )

  pub not-below : j ≤ i → ltb i j ≡ false
  not-below l = not_of (λ e. let k = ltb-true i j e in absurd (omega (arith, k, l)))

  pub active_first : j ≤ i → (active c j i ≡ true) ↔ First
  unfolding active free_of
  active_first l = (
    λ e m k same. (none_below (λ m. eqb (c m) (c i)) i).0 (sym (cond-false _ _ (not-below l)) ∙ e) m k (eqb_intro same),
    λ h. cond-false _ _ (not-below l) ∙ (none_below (λ m. eqb (c m) (c i)) i).1 (λ m k e. h m k (eqb-true (c m) (c i) e)),
  )

-- some cut of each node that is cut is active
pub some_active : (c : ℕ → ℕ) (n j i : ℕ) → j ≤ n → i < n → (k : ℕ) × (k < n) × (active c j k ≡ true) × (c k ≡ c i)
some_active c n j i below l =
    ⊎_elim
    (λ r. (r.0, omega (arith, r.1), (active_last c j r.0 r.1).1 (λ m k k' e. r.3 m k k' (e ∙ r.2)), r.2))
    (λ none. ⊎_elim
    (λ r. (r.0, r.1, (active_first c j r.0 (at_least none r)).1 (λ m k e. r.3 m k (e ∙ r.2)), r.2))
    (λ no. absurd (no i l refl))
    (first_below (λ m. c m ≡ c i) (λ m. decide m) n))
    (last_below (λ m. c m ≡ c i) (λ m. decide m) j)
  where
    decide : (m : ℕ) → (c m ≡ c i) ⊎ (c m ≡ c i → ⊥)
    decide m = elim (ℕ_discrete (c m) (c i)) [ yes e ↦ inl e | no d ↦ inr d ]

    at_least : ((m : ℕ) → m < j → c m ≡ c i → ⊥) → (r : (k : ℕ) × (k < n) × (c k ≡ c i) × ((m : ℕ) → m < k → c m ≡ c i → ⊥)) → j ≤ r.0
    at_least none r = ⊎_elim (λ h. h) (λ h. absurd (none r.0 h r.2)) (le_cases j r.0)

-- what is assigned to a cut that is active, or what stood there
pub active_target : {A : Type 0} (f : ℕ → A) (c : ℕ → ℕ) (y : ℕ → A) (j i : ℕ) → active c j i ≡ true → version f c y j (c i) ≡ target f c y j i
unfolding target
active_target f c y j i h =
    ⊎_elim
    (λ l. version_else f c y j (c i) (λ m k e. (active_first c j i l).0 h m (omega (arith, k, l)) (sym e)) ∙ sym (cond-false _ _ (not-below c j i l)))
    (λ l. version_last f c y j i l (λ m k k' e. (active_last c j i l).0 h m k k' (sym e)) ∙ sym (cond-true _ _ (ltb_intro l)))
    (le_cases j i)

-- A link f after the first j assignments, to the nodes c i of the values y i; it is cut at c i for i below n, further nodes among them.
module _ (f c y : ℕ → ℕ) (n j : ℕ) (below : j ≤ n) where
  pub uncut_version : (v : ℕ) → (IsCut c n v → ⊥) → version f c y j v ≡ f v
  uncut_version v x = version_else f c y j v (λ i l e. x (i, omega (arith, l, below), sym e))

  -- where what is to be avoided is cut, the link after the assignments and the cut link fit together
  pub version_cutting : (Avoid : ℕ → Type 0) → ((v : ℕ) → Avoid v → IsCut c n v) →
      Cutting (version f c y j) (cut f c n) c (target f c y j) (active c j) Avoid n
  version_cutting Avoid cuts =
      record {
        decided = cut-decided c n;
        cut_fixed = λ i l. cut_stays f c n (c i) (i, l, refl);
        uncut_same = λ v x. uncut_goes f c n v x ∙ sym (uncut_version v x);
        active_target = λ i l h. active_target f c y j i h;
        some_active = λ i l. some_active c n j i below l;
        avoided_cut = cuts;
      }

  abbrev pub Ways : (ℕ → Type 0) → ℕ → ℕ → Type 0
  Ways Avoid = Jumps (cut f c n) c (target f c y j) (active c j) Avoid n (from n 0)

  -- 03, "A way": "a reaches b by f after the first j assignments"
  pub reaches_version : (a b : ℕ) → Reaches (version f c y j) a b ↔ Ways Nothing a b
  reaches_version a b =
      let u = reaches_until (version f c y j) a b in
      let w = until_jumps _ _ _ _ _ _ _ (version_cutting Nothing (λ v x. absurd x)) a b in
      (λ r. w.0 (u.0 r), λ r. u.1 (w.1 r))

  -- "`between(x,y,z)` is the same with z as one more cut at which the first half stops"
  pub between_version : (a b z : ℕ) → IsCut c n z → Between (version f c y j) a b z ↔ (Ways (λ v. v ≡ z) a b × Ways Nothing a z)
  between_version a b z x =
      let u = between_until (version f c y j) a b z in
      let w = until_jumps _ _ _ _ _ _ _ (version_cutting (λ v. v ≡ z) (λ v e. subst (IsCut c n) (sym e) x)) a b in
      let r = until_jumps _ _ _ _ _ _ _ (version_cutting Nothing (λ v x. absurd x)) a z in
      (λ b. let p = u.0 b in (w.0 p.0, r.0 p.1), λ p. u.1 (w.1 p.0, r.1 p.1))

  -- what is read at a node: the target of an active cut there, or what the cut link leads to
  abbrev pub ReadAtCut : ℕ → ℕ → Type 0
  ReadAtCut a r = (i : ℕ) × (i < n) × (c i ≡ a) × (active c j i ≡ true) × (target f c y j i ≡ r)

  abbrev pub ReadElsewhere : ℕ → ℕ → Type 0
  ReadElsewhere a r = (IsCut c n a → ⊥) × (cut f c n a ≡ r)

  pub read_version : (a r : ℕ) → (version f c y j a ≡ r) ↔ (ReadAtCut a r ⊎ ReadElsewhere a r)
  read_version a r = (forth, ⊎_elim at_cut elsewhere)
    where
      at_cut : ReadAtCut a r → version f c y j a ≡ r
      at_cut x = ap (version f c y j) (sym x.2) ∙ active_target f c y j x.0 x.3 ∙ x.4

      elsewhere : ReadElsewhere a r → version f c y j a ≡ r
      elsewhere x = uncut_version a x.0 ∙ sym (uncut_goes f c n a x.0) ∙ x.1

      forth : version f c y j a ≡ r → ReadAtCut a r ⊎ ReadElsewhere a r
      forth e =
          ⊎_elim
          (λ x. let k = some_active c n j x.0 below x.1 in
          let at : c k.0 ≡ a = k.3 ∙ x.2 in
          inl (k.0, k.1, at, k.2, sym (active_target f c y j k.0 k.2) ∙ ap (version f c y j) at ∙ e))
          (λ x. inr (x, uncut_goes f c n a x ∙ sym (uncut_version a x) ∙ e))
          (cut-decided c n a)

-- a flag after one more assignment: what it gives, or what stood there
pub flag_version : {A : Type 0} (f : ℕ → A) (x : ℕ → ℕ) (y : ℕ → A) (j v : ℕ) (b : A) →
    (version f x y (suc j) v ≡ b) ↔ (((v ≡ x j) × (y j ≡ b)) ⊎ ((v ≡ x j → ⊥) × (version f x y j v ≡ b)))
unfolding version
flag_version f x y j v b = (
  λ e. elim (ℕ_discrete v (x j)) [
    | yes q ↦ inl (q, sym (changed_here (version f x y j) (x j) (y j) v q) ∙ e)
    | no d ↦ inr (d, sym (changed_else (version f x y j) (x j) (y j) v d) ∙ e)
  ],
  ⊎_elim
      (λ p. changed_here (version f x y j) (x j) (y j) v p.0 ∙ p.1)
      (λ p. changed_else (version f x y j) (x j) (y j) v p.0 ∙ p.1),
)
