-- Reaching a node before any that is to be avoided. Reachability and between are both said with it.
use Prim.Native.Nat.{ℕ, zero, suc, ◌≤◌, ◌<◌}
use native.Mathlib.Omega.{arith}
use native.Mathlib.Decide.{ℕ_discrete}
use mathlib.Core.Path.{◌≡◌, refl, subst}
use mathlib.Core.Logic.{◌↔◌, ⊎_elim}
use Rattle.logic.specs.Heap.{iterate, Reaches}
use Rattle.theory.proofs.Basics.Compare.{le_cases}
use Rattle.between.specs.Meaning.{MetAfter, Between}

-- following f from v leads to w, and what is passed before w is not to be avoided
pub data Until (f : ℕ → ℕ) (Avoid : ℕ → Type 0) : ℕ → ℕ → Type 0 where
  here : {v : ℕ} → Until f Avoid v v
  on : {v w : ℕ} → (Avoid v → ⊥) → Until f Avoid (f v) w → Until f Avoid v w

module _ (f : ℕ → ℕ) (Avoid : ℕ → Type 0) where
  pub until_trans : {u v w : ℕ} → Until f Avoid u v → Until f Avoid v w → Until f Avoid u w
  until_trans here r = r
  until_trans (on a p) r = on a (until_trans p r)

  -- by a number of links
  pub until_steps : (v w : ℕ) → Until f Avoid v w → (k : ℕ) × (iterate f k v ≡ w) × ((j : ℕ) → j < k → Avoid (iterate f j v) → ⊥)
  unfolding iterate
  until_steps v w here = (0, refl, λ j l. absurd (omega arith))
  until_steps v w (on a p) =
      let r = until_steps (f v) w p in
      (suc r.0, r.1, λ j l. later r.2 j l)
    where
      later : {k : ℕ} → ((j : ℕ) → j < k → Avoid (iterate f j (f v)) → ⊥) → (j : ℕ) → j < suc k → Avoid (iterate f j v) → ⊥
      later h zero l = a
      later h (suc j) l = h j (omega arith)

  pub steps_until : (k v w : ℕ) → iterate f k v ≡ w → ((j : ℕ) → j < k → Avoid (iterate f j v) → ⊥) → Until f Avoid v w
  unfolding iterate
  steps_until zero v w e h = subst (Until f Avoid v) e here
  steps_until (suc k) v w e h = on (h 0 (omega arith)) (steps_until k (f v) w e (λ j l. h (suc j) (omega arith)))

-- reaching is the case where nothing is to be avoided
abbrev pub Nothing : ℕ → Type 0
Nothing v = ⊥

pub reaches_until : (f : ℕ → ℕ) (v w : ℕ) → Reaches f v w ↔ Until f Nothing v w
unfolding Reaches
reaches_until f v w = (λ r. steps_until f Nothing r.0 v w r.1 (λ j l a. a), λ u. let r = until_steps f Nothing v w u in (r.0, r.1))

-- what f comes to for the first time, one link later
met-later : (f : ℕ → ℕ) (v w j : ℕ) → (v ≡ w → ⊥) → MetAfter f (f v) w j → MetAfter f v w (suc j)
unfolding iterate
met-later f v w j d m = record { met = m.met; least = before }
  where
    before : (i : ℕ) → i < suc j → iterate f i v ≡ w → ⊥
    before zero l e = d e
    before (suc i) l e = m.least i (omega arith) e

-- what is met at all is met for the first time
pub met_first : (f : ℕ → ℕ) (k v w : ℕ) → iterate f k v ≡ w → (j : ℕ) × (j ≤ k) × MetAfter f v w j
unfolding iterate
met_first f zero v w e = (0, omega arith, record { met = e; least = λ j l. absurd (omega arith) })
met_first f (suc k) v w e = elim (ℕ_discrete v w) [
  | yes q ↦ (0, omega arith, record { met = q; least = λ j l. absurd (omega arith) })
  | no d ↦ let r = met_first f k (f v) w e in (suc r.0, omega arith, met-later f v w r.0 d r.2)
]

-- "y comes between x and z": x reaches z, and reaches y before z is passed
pub between_until : (f : ℕ → ℕ) (x y z : ℕ) → Between f x y z ↔ (Until f (λ v. v ≡ z) x y × Until f Nothing x z)
between_until f x y z = (forth, back)
  where
    forth : Between f x y z → Until f (λ v. v ≡ z) x y × Until f Nothing x z
    forth b = (
      steps_until f (λ v. v ≡ z) b.steps x y b.middle_met.met (λ j l. b.to_met.least j (omega (arith, b.not_above))),
      steps_until f Nothing b.steps_to x z b.to_met.met (λ j l a. a),
    )

    back : Until f (λ v. v ≡ z) x y × Until f Nothing x z → Between f x y z
    back p =
        let u = until_steps f (λ v. v ≡ z) x y p.0 in
        let r = until_steps f Nothing x z p.1 in
        let m = met_first f u.0 x y u.1 in
        let t = met_first f r.0 x z r.1 in
        record {
          steps = m.0;
          steps_to = t.0;
          middle_met = m.2;
          to_met = t.2;
          not_above = ⊎_elim (λ l. l) (λ l. absurd (u.2 t.0 (omega (arith, m.1)) t.2.met)) (le_cases m.0 t.0);
        }
