-- Least step counts, and what they say of reaching and of between in a heap of at most five nodes.
use Prim.Native.Nat.{ℕ, zero, suc, ◌+◌, ◌-◌, ◌≤◌, ◌<◌}
use native.Mathlib.Omega.{arith}
use native.Mathlib.Decide.{ℕ_discrete}
use mathlib.Core.Path.{◌≡◌, refl, sym, ap, ◌∙◌, subst}
use mathlib.Core.Logic.{◌↔◌, ⊎_elim}
use mathlib.Core.Bool.{Bool, true, false, cond, ◌&&◌, false≢true}
use lib.Dec.{eqb, leb}
use borrow.Author.Tests.{leb-true, le-leb}
use Rattle.logic.specs.Heap.{iterate, Reaches}
use Rattle.theory.proofs.Basics.Compare.{eqb_intro, eqb-false, le_cases}
use Rattle.theory.proofs.Basics.Iterate.{iterate-add}
use Rattle.theory.proofs.Graph.Pigeonhole.{pigeonhole}
use Rattle.between.specs.Meaning.{MetAfter, Between}
use Rattle.between.proofs.Until.{met_first}
use Rattle.between_search.specs.Tests.{step_count, steps}

module _ (f : ℕ → ℕ) (w : ℕ) where
  count_here : (k v : ℕ) → v ≡ w → step_count f (suc k) v w ≡ 0
  unfolding step_count
  count_here k v e = rw (eqb_intro e)

  count_on : (k v : ℕ) → (v ≡ w → ⊥) → step_count f (suc k) v w ≡ suc (step_count f k (f v) w)
  unfolding step_count
  count_on k v d = rw (eqb-false v w d)

  -- a count below the limit is the least number of links
  pub count_met : (k v : ℕ) → step_count f k v w < k → MetAfter f v w (step_count f k v w)
  unfolding iterate
  count_met zero v h = absurd (omega arith)
  count_met (suc k) v h = elim (ℕ_discrete v w) [
    | yes e ↦ subst (MetAfter f v w) (sym (count_here k v e)) (record { met = e; least = λ j l. absurd (omega arith) })
    | no d ↦ let r = count_met k (f v) (omega (arith, h, count_on k v d)) in subst (MetAfter f v w) (sym (count_on k v d)) (later v d (step_count f k (f v) w) r)
  ]
    where
      later : (v : ℕ) → (v ≡ w → ⊥) → (j : ℕ) → MetAfter f (f v) w j → MetAfter f v w (suc j)
      later v d j m = record { met = m.met; least = before }
        where
          before : (i : ℕ) → i < suc j → iterate f i v ≡ w → ⊥
          before zero l e = d e
          before (suc i) l e = m.least i (omega arith) e

  -- and the least number of links is counted
  pub met_count : (k v j : ℕ) → MetAfter f v w j → j < k → step_count f k v w ≡ j
  unfolding iterate
  met_count zero v j m l = absurd (omega arith)
  met_count (suc k) v zero m l = count_here k v m.met
  met_count (suc k) v (suc j) m l =
      count_on k v (m.least 0 (omega arith)) ∙ ap suc (met_count k (f v) j (record { met = m.met; least = λ i h e. m.least (suc i) (omega arith) e }) (omega arith))

-- following links from v stays among m nodes
abbrev pub Stays : (ℕ → ℕ) → ℕ → ℕ → Type 0
Stays f m v = (i : ℕ) → (1 ≤ iterate f i v) × (iterate f i v ≤ m)

pub stays : (f : ℕ → ℕ) (m : ℕ) → ((v : ℕ) → (1 ≤ v) × (v ≤ m) → (1 ≤ f v) × (f v ≤ m)) → (v : ℕ) → (1 ≤ v) × (v ≤ m) → Stays f m v
unfolding iterate
stays f m inside v h zero = h
stays f m inside v h (suc i) = stays f m inside (f v) (inside v h) i

-- what is met is met within as many links as there are nodes
pub met_soon : (f : ℕ → ℕ) (m v w j : ℕ) → Stays f m v → MetAfter f v w j → j < m
met_soon f m v w j s e = ⊎_elim (λ l. absurd (late l)) (λ l. l) (le_cases m j)
  where
    late : m ≤ j → ⊥
    late l =
        let r = pigeonhole m (λ i. iterate f i v - 1) (λ i k. let a = s i in omega (arith, a.0, a.1)) in
        let a = s r.0 in
        let b = s r.1 in
        let same : iterate f r.0 v ≡ iterate f r.1 v = omega (arith, r.4, a.0, b.0) in
        let rest : r.1 + (j - r.1) ≡ j = omega (arith, r.3, l) in
        e.least (r.0 + (j - r.1)) (omega (arith, r.2, r.3, l))
        (iterate-add f r.0 (j - r.1) v ∙ ap (iterate f (j - r.1)) same ∙ sym (iterate-add f r.1 (j - r.1) v) ∙ ap (λ (x : ℕ). iterate f x v) rest ∙ e.met)

module _ (f : ℕ → ℕ) (m : ℕ) (few : m ≤ 5) (v : ℕ) (s : Stays f m v) where
  steps_of : (w j : ℕ) → MetAfter f v w j → (steps f v w ≡ j) × (j < m)
  unfolding steps
  steps_of w j e = let l = met_soon f m v w j s e in (met_count f w 6 v j e (omega arith), l)

  met_of : (w : ℕ) → steps f v w ≤ 5 → MetAfter f v w (steps f v w)
  unfolding steps
  met_of w h = count_met f w 6 v (omega arith)

  pub equal_steps : (w : ℕ) → (v ≡ w) ↔ (leb (steps f v w) 0 ≡ true)
  unfolding iterate
  equal_steps w = (
    λ e. le-leb (steps f v w) 0 (let r = steps_of w 0 (record { met = e; least = λ i l. absurd (omega arith) }) in omega (arith, r.0)),
    λ h. let z : steps f v w ≡ 0 = omega (arith, leb-true (steps f v w) 0 h) in subst (λ (j : ℕ). iterate f j v ≡ w) z (met_of w (omega arith)).met,
  )

  pub reach_steps : (w : ℕ) → Reaches f v w ↔ (leb (steps f v w) 5 ≡ true)
  unfolding Reaches
  reach_steps w = (
    λ r. le-leb (steps f v w) 5 (let a = met_first f r.0 v w r.1 in let b = steps_of w a.0 a.2 in omega (arith, b.0, b.1)),
    λ h. (steps f v w, (met_of w (leb-true (steps f v w) 5 h)).met),
  )

  and_both : (a b : Bool) → a ≡ true → b ≡ true → a && b ≡ true
  and_both true b e h = h
  and_both false b e h = absurd (false≢true e)

  and_split : (a b : Bool) → a && b ≡ true → (a ≡ true) × (b ≡ true)
  and_split true b h = (refl, h)
  and_split false b h = absurd (false≢true h)

  pub between_steps : (y z : ℕ) → Between f v y z ↔ (leb (steps f v y) (steps f v z) && leb (steps f v z) 5 ≡ true)
  between_steps y z = (
    λ b.
        let p = steps_of y b.steps b.middle_met in
        let r = steps_of z b.steps_to b.to_met in
        and_both _ _ (le-leb (steps f v y) (steps f v z) (omega (arith, p.0, r.0, b.not_above))) (le-leb (steps f v z) 5 (omega (arith, r.0, r.1))),
    λ h.
        let a = and_split (leb (steps f v y) (steps f v z)) (leb (steps f v z) 5) h in
        let l = leb-true (steps f v y) (steps f v z) a.0 in
        let u = leb-true (steps f v z) 5 a.1 in
        record { steps = steps f v y; steps_to = steps f v z; middle_met = met_of y (omega (arith, l, u)); to_met = met_of z u; not_above = l },
  )

-- links that agree on the nodes have the same counts
pub steps_alike : (f g : ℕ → ℕ) (m : ℕ) → ((v : ℕ) → (1 ≤ v) × (v ≤ m) → (1 ≤ f v) × (f v ≤ m)) → ((v : ℕ) → (1 ≤ v) × (v ≤ m) → f v ≡ g v) → (v w : ℕ) → (1 ≤ v) × (v ≤ m) → steps f v w ≡ steps g v w
unfolding steps step_count
steps_alike f g m inside same v w h = go 6 v h
  where
    go : (k v : ℕ) → (1 ≤ v) × (v ≤ m) → step_count f k v w ≡ step_count g k v w
    go zero v h = refl
    go (suc k) v h = ap (λ (x : ℕ). cond (eqb v w) 0 (suc x)) (go k (f v) (inside v h) ∙ ap (λ (x : ℕ). step_count g k x w) (same v h))
