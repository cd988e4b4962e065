-- An entry whose bytes are all allowed meets no refusal.
use Prim.Native.Nat.{ℕ, ◌+◌}
use mathlib.Core.Path.{◌≡◌, refl, sym, ◌∙◌}
use mathlib.Core.Bool.{Bool, true, false, ◌&&◌, false≢true}
use mathlib.Core.List.{List}
use mathlib.Core.Option.{Option, none}
use lib.ListN.{get_or}
use lib.Dec.{eqb}
use Rattle.logic.specs.Search.{or_else}
use Rattle.logic.specs.Query.{Role, sign_role, term_role}
use Rattle.byte_tests.specs.Meets.{counted, counted_role, meets}
use Rattle.entries.specs.Entries.{fault_at, flag_allowed, literal_allowed, Passes}
use Rattle.entries.proofs.Faults.{or_else_next, no_fault_at, and_never}

-- Two searches one behind the other, and their tests

pub both_none : {A : Type 0} {o o' : Option A} → o ≡ none → o' ≡ none → or_else o o' ≡ none
both_none e e' = or_else_next _ e ∙ e'

pub both : (a b : Bool) → a && b ≡ true → (a ≡ true) × (b ≡ true)
both true b h = (refl, h)
both false b h = absurd (false≢true h)

-- Bytes

module _ (bytes : List ℕ) where
  allowed_none : (r : Role) (k at : ℕ) → r.allows (get_or bytes at 0) ≡ true → fault_at r k bytes at ≡ none
  unfolding meets
  allowed_none r k at h = no_fault_at r k bytes at (rw h (and_never (eqb r.refusal k)))

  -- what the tests say of the bytes that they were given
  pub byte_passes : {b : Bool} {x : ℕ} (r : Role) (at : ℕ) → b ≡ r.allows x → x ≡ get_or bytes at 0 → Passes b (λ k. fault_at r k bytes at)
  byte_passes r at test e h k = allowed_none r k at (rw (← e, ← test) h)

  module _ (own most at left : ℕ) where
    pub flag_passes : {b : Bool} → b ≡ flag_allowed most bytes at left → Passes b (λ k. or_else (fault_at sign_role k bytes at) (fault_at (counted_role own most) k bytes left))
    unfolding counted_role
    flag_passes test h k =
        let (s, l) = both (sign_role.allows (get_or bytes at 0)) (counted most (get_or bytes left 0)) (sym test ∙ h) in
        both_none (allowed_none sign_role k at s) (allowed_none (counted_role own most) k left l)

    pub literal_passes : {b : Bool} (n : ℕ) → b ≡ literal_allowed most n bytes at left →
        Passes b (λ k. or_else (or_else (fault_at sign_role k bytes at) (fault_at (counted_role own most) k bytes left)) (fault_at (term_role n) k bytes (left + 1)))
    unfolding term_role
    literal_passes n test h k =
        let (f, r) = both (flag_allowed most bytes at left) (counted n (get_or bytes (left + 1) 0)) (sym test ∙ h) in
        both_none (flag_passes refl f k) (allowed_none (term_role n) k (left + 1) r)
