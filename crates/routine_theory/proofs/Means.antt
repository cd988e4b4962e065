-- `reaches` and `between` of a state are those of 01 and of R-10, and `forall` ranges over all nodes.
use Prim.Native.Nat.{ℕ, ◌<◌}
use native.Mathlib.Omega.{arith}
use mathlib.Core.Path.{◌≡◌}
use mathlib.Core.Logic.{◌↔◌}
use mathlib.Core.Bool.{true}
use mathlib.Core.List.{List, ◌∷◌, Memᴰ}
use lib.Dec.{leb, ltb}
use Rattle.logic.specs.Search.{◌and◌, from, all}
use Rattle.logic.specs.Heap.{Node, IsHeap, Reaches}
use Rattle.theory.proofs.Basics.Search.{and_left, and_right, and_intro, all_true, all_intro, from-mem, from_intro}
use Rattle.theory.proofs.Basics.Compare.{ltb-true, ltb_intro, leb-true, leb_intro}
use Rattle.between.specs.Meaning.{MetAfter, Between}
use Rattle.between.proofs.Until.{met_first}
use Rattle.between_search.specs.Tests.{step_count}
use Rattle.between_search.proofs.StepCounts.{Stays, stays, count_met, met_count, met_soon}
use Rattle.routine_logic.specs.State.{State}
use Rattle.routine_logic.specs.Syntax.{Formula, forall}
use Rattle.routine_logic.specs.Formulas.{Bound, reaches_by, between_by, holds}

module _ (s : State) (is : IsHeap s) (i v : ℕ) (h : Node s v) where
  abbrev count : ℕ → ℕ
  count w = step_count (s.link i) s.size v w

  inside : Stays (s.link i) s.size v
  inside = stays (s.link i) s.size (is.link_node i) v h

  -- what is met is counted, and below the number of nodes
  counted : (w j : ℕ) → MetAfter (s.link i) v w j → (count w ≡ j) × (j < s.size)
  counted w j m = let l = met_soon (s.link i) s.size v w j inside m in (met_count (s.link i) w s.size v j m l, l)

  -- what is met is counted below the number of nodes
  below : (w j : ℕ) → MetAfter (s.link i) v w j → ltb (count w) s.size ≡ true
  below w j m = let c = counted w j m in ltb_intro {m = count w} {n = s.size} (omega (arith, c.0, c.1))

  pub reaches_means : (w : ℕ) → (reaches_by s i v w ≡ true) ↔ Reaches (s.link i) v w
  unfolding reaches_by Reaches
  reaches_means w = (
    λ e. (count w, (count_met (s.link i) w s.size v (ltb-true _ _ e)).met),
    λ r. let m = met_first (s.link i) r.0 v w r.1 in below w m.0 m.2,
  )

  pub between_means : (y z : ℕ) → (between_by s i v y z ≡ true) ↔ Between (s.link i) v y z
  unfolding between_by reaches_by
  between_means y z = (forth, back)
    where
      forth : between_by s i v y z ≡ true → Between (s.link i) v y z
      forth e =
          let both = and_left (ltb (count y) s.size and ltb (count z) s.size) _ e in
          record {
            steps = count y;
            steps_to = count z;
            middle_met = count_met (s.link i) y s.size v (ltb-true _ _ (and_left _ _ both));
            to_met = count_met (s.link i) z s.size v (ltb-true _ _ (and_right (ltb (count y) s.size) _ both));
            not_above = leb-true _ _ (and_right (ltb (count y) s.size and ltb (count z) s.size) _ e);
          }

      back : Between (s.link i) v y z → between_by s i v y z ≡ true
      back b =
          let p = counted y b.steps b.middle_met in
          let q = counted z b.steps_to b.to_met in
          and_intro (and_intro (below y b.steps b.middle_met) (below z b.steps_to b.to_met))
          (leb_intro {m = count y} {n = count z} (omega (arith, p.0, q.0, b.not_above)))

-- "`forall` ranges over all nodes": what is assumed of all holds of every node that has a name
pub forall_means : (s : State) (e : Bound) (f : Formula) → (holds s e (forall f) ≡ true) ↔ ((v : ℕ) → Node s v → holds s (v ∷ e) f ≡ true)
unfolding holds
forall_means s e f = (
  λ h v n. all_true (λ v. holds s (v ∷ e) f) v h (from_intro s.size 1 v n.0 (let l = n.1 in omega (arith, l))),
  λ h. all_intro (λ v. holds s (v ∷ e) f) (from s.size 1) (λ v m. let r = from-mem s.size 1 v m in h v (r.0, omega (arith, r.1))),
)

-- where every node has a name, holding at the names is holding
pub forall-named : (s : State) (e : Bound) (f : Formula) (names : List ℕ) → ((v : ℕ) → Node s v → Memᴰ v names) →
    all (λ v. holds s (v ∷ e) f) names ≡ true → holds s e (forall f) ≡ true
forall-named s e f names named h = (forall_means s e f).1 (λ v n. all_true (λ v. holds s (v ∷ e) f) v h (named v n))
