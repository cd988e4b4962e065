-- The nodes at which `forall`s fail that are denied, by the places where they stand in a formula.
use Prim.Native.Nat.{ℕ}
use native.Mathlib.Omega.{arith}
use mathlib.Core.Path.{◌≡◌, refl}
use mathlib.Core.Bool.{Bool, true, false, not}
use mathlib.Core.List.{List, [], ◌∷◌}
use mathlib.Core.Option.{Option, none, some}
use Rattle.logic.specs.Search.{from, find}
use Rattle.logic.specs.Heap.{Node, IsHeap}
use Rattle.theory.proofs.Basics.Search.{all-false, find-some, find_none, from-mem, true-false, not-true, not_intro}
use Rattle.routine_logic.specs.Syntax.{Formula, always, never, equal, unequal, reaches, between, flag, negation, both, either, implies, same, forall}
use Rattle.routine_logic.specs.State.{State, null_node}
use Rattle.routine_logic.specs.Formulas.{Bound, holds}

module _ (s : State) where
  pub found : Option ℕ → ℕ
  found none = null_node
  found (some v) = v

  -- the first node at which the body fails, or NULL
  unfoldable pub failing : Bound → Formula → ℕ
  failing e f = found (find (λ v. not (holds s (v ∷ e) f)) (from s.size 1))

  unfoldable pub witness : Bound → Formula → List Bool → ℕ
  witness e (forall f) [] = failing e f
  witness e (forall f) (b ∷ d) = witness (failing e f ∷ e) f d
  witness e (negation f) d = witness e f d
  witness e (both f g) (false ∷ d) = witness e f d
  witness e (both f g) (true ∷ d) = witness e g d
  witness e (both f g) [] = null_node
  witness e (either f g) (false ∷ d) = witness e f d
  witness e (either f g) (true ∷ d) = witness e g d
  witness e (either f g) [] = null_node
  witness e (implies f g) (false ∷ d) = witness e f d
  witness e (implies f g) (true ∷ d) = witness e g d
  witness e (implies f g) [] = null_node
  witness e (same f g) (false ∷ d) = witness e f d
  witness e (same f g) (true ∷ d) = witness e g d
  witness e (same f g) [] = null_node
  witness e always d = null_node
  witness e never d = null_node
  witness e (equal t u) d = null_node
  witness e (unequal t u) d = null_node
  witness e (reaches i t u) d = null_node
  witness e (between i t u v) d = null_node
  witness e (flag j t) d = null_node

  pub failing_fails : (e : Bound) (f : Formula) → holds s e (forall f) ≡ false → holds s (failing e f ∷ e) f ≡ false
  unfolding failing found holds
  failing_fails e f h = go (find (λ v. not (holds s (v ∷ e) f)) (from s.size 1)) refl
    where
      go : (o : Option ℕ) → find (λ v. not (holds s (v ∷ e) f)) (from s.size 1) ≡ o → holds s (found o ∷ e) f ≡ false
      go none q =
          let r = all-false (λ v. holds s (v ∷ e) f) (from s.size 1) h in
          absurd (true-false (not_intro r.2) (find_none (λ v. not (holds s (v ∷ e) f)) r.0 q r.1))
      go (some v) q = not-true (find-some (λ v. not (holds s (v ∷ e) f)) (from s.size 1) v q).1

  module _ (is : IsHeap s) where
    null_is_node : Node s null_node
    null_is_node = (omega arith, is.nonempty)

    failing_node : (e : Bound) (f : Formula) → Node s (failing e f)
    unfolding failing found
    failing_node e f = go (find (λ v. not (holds s (v ∷ e) f)) (from s.size 1)) refl
      where
        go : (o : Option ℕ) → find (λ v. not (holds s (v ∷ e) f)) (from s.size 1) ≡ o → Node s (found o)
        go none q = null_is_node
        go (some v) q =
            let r = from-mem s.size 1 v (find-some (λ v. not (holds s (v ∷ e) f)) (from s.size 1) v q).0 in
            (r.0, omega (arith, r.1))

    pub witness_node : (e : Bound) (f : Formula) (d : List Bool) → Node s (witness e f d)
    unfolding witness
    witness_node e (forall f) [] = failing_node e f
    witness_node e (forall f) (b ∷ d) = witness_node (failing e f ∷ e) f d
    witness_node e (negation f) d = witness_node e f d
    witness_node e (both f g) (false ∷ d) = witness_node e f d
    witness_node e (both f g) (true ∷ d) = witness_node e g d
    witness_node e (both f g) [] = null_is_node
    witness_node e (either f g) (false ∷ d) = witness_node e f d
    witness_node e (either f g) (true ∷ d) = witness_node e g d
    witness_node e (either f g) [] = null_is_node
    witness_node e (implies f g) (false ∷ d) = witness_node e f d
    witness_node e (implies f g) (true ∷ d) = witness_node e g d
    witness_node e (implies f g) [] = null_is_node
    witness_node e (same f g) (false ∷ d) = witness_node e f d
    witness_node e (same f g) (true ∷ d) = witness_node e g d
    witness_node e (same f g) [] = null_is_node
    witness_node e always d = null_is_node
    witness_node e never d = null_is_node
    witness_node e (equal t u) d = null_is_node
    witness_node e (unequal t u) d = null_is_node
    witness_node e (reaches i t u) d = null_is_node
    witness_node e (between i t u v) d = null_is_node
    witness_node e (flag j t) d = null_is_node
