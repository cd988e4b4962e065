-- The value of a term: the node of a variable or of nil, or the link of the value of its argument.
use Prim.Native.Nat.{ℕ, zero, suc, ◌≤◌, ◌<◌}
use native.Mathlib.Omega.{arith}
use mathlib.Core.Path.{◌≡◌, refl, sym, ap, ◌∙◌}
use mathlib.Core.Logic.{◌↔◌, ⊎_elim}
use mathlib.Core.Bool.{Bool, true, false, cond, true≢false, false≢true}
use lib.Dec.{eqb}
use Rattle.logic.specs.Query.{Query, argument_of, link_of, term_count, Entries}
use Rattle.logic.specs.Heap.{Heap, Node, IsHeap, value_within, value, Signed}
use Rattle.theory.proofs.Basics.Compare.{eqb_intro, eqb-false, le_cases, cond-true, cond-false}
use Rattle.theory.proofs.Query.Tied.{Accepted}
use Rattle.theory.proofs.Query.Entries.{argument_range}

-- an argument is below its own term
abbrev pub Below : Entries → Type 0
Below entries = (t : ℕ) → 1 ≤ argument_of entries t → argument_of entries t < t

pub accepted_below : (q : Query) → Accepted q → Below q.entries
unfolding term_count
accepted_below q ok t one = ok.entry_below t (argument_range q.entries t one)

module _ (h : Heap) (entries : Entries) where
  -- the value within some steps, as its definition says it
  within_variable : (k t : ℕ) → argument_of entries t ≡ 0 → value_within h entries k t ≡ h.variable t
  unfolding value_within
  within_variable zero t e = refl
  within_variable (suc k) t e = cond-true _ _ (eqb_intro e)

  within_link : (k t : ℕ) → 1 ≤ argument_of entries t → value_within h entries (suc k) t ≡ h.link (link_of entries t) (value_within h entries k (argument_of entries t))
  unfolding value_within
  within_link k t l = cond-false _ _ (eqb-false (argument_of entries t) 0 (omega arith))

  within_node : IsHeap h → (k t : ℕ) → Node h (value_within h entries k t)
  unfolding value_within
  within_node is zero t = is.variable_node t
  within_node is (suc k) t = go (eqb (argument_of entries t) 0) (within_node is k (argument_of entries t))
    where
      go : (b : Bool) {v : ℕ} → Node h v → Node h (cond b (h.variable t) (h.link (link_of entries t) v))
      go true m = is.variable_node t
      go false {v} m = is.link_node (link_of entries t) v m

  pub value-variable : (t : ℕ) → argument_of entries t ≡ 0 → value h entries t ≡ h.variable t
  unfolding value
  value-variable t e = within_variable t t e

  pub value_node : IsHeap h → (t : ℕ) → Node h (value h entries t)
  unfolding value
  value_node is t = within_node is t t

  module _ (below : Below entries) where
    no_entry : (t : ℕ) → t ≡ 0 → argument_of entries t ≡ 0
    no_entry t e = ⊎_elim (λ one. absurd (let b = below t one in omega arith)) (λ l. omega arith) (le_cases 1 (argument_of entries t))

    -- t steps are enough for term t
    within_enough : (j k t : ℕ) → t ≤ j → t ≤ k → value_within h entries j t ≡ value_within h entries k t
    within_enough zero k t l m = within_variable zero t (no_entry t (omega arith)) ∙ sym (within_variable k t (no_entry t (omega arith)))
    within_enough (suc j) zero t l m = within_variable (suc j) t (no_entry t (omega arith)) ∙ sym (within_variable zero t (no_entry t (omega arith)))
    within_enough (suc j) (suc k) t l m =
        ⊎_elim
        (λ one. let b = below t one in within_link j t one ∙ ap (h.link (link_of entries t)) (within_enough j k (argument_of entries t) (omega arith) (omega arith)) ∙ sym (within_link k t one))
        (λ e. let z : argument_of entries t ≡ 0 = omega arith in within_variable (suc j) t z ∙ sym (within_variable (suc k) t z))
        (le_cases 1 (argument_of entries t))

    pub value-link : (t : ℕ) → 1 ≤ argument_of entries t → value h entries t ≡ h.link (link_of entries t) (value h entries (argument_of entries t))
    unfolding value
    value-link t l =
        let b = below t l in
        within_enough t (suc t) t (omega arith) (omega arith) ∙ within_link t t l
        ∙ ap (h.link (link_of entries t)) (within_enough t (argument_of entries t) (argument_of entries t) (omega arith) (omega arith))

-- A plain literal says what it means, and a negated one denies it

-- a literal that means the same is met alike
pub signed_same : {P Q : Type 0} (b : Bool) → P ↔ Q → Signed b P → Signed b Q
signed_same true e p = e.0 p
signed_same false e p = λ x. p (e.1 x)

pub signed_true : {P : Type 0} (b : Bool) → b ≡ true → Signed b P → P
signed_true true e m = m
signed_true false e m = absurd (false≢true e)

pub signed_false : {P : Type 0} (b : Bool) → b ≡ false → Signed b P → P → ⊥
signed_false true e m = absurd (true≢false e)
signed_false false e m = m
