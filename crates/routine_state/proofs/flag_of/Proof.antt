-- By its row and its place. Assumes nothing.
use borrow.Author.Rules.{rules}
use mathlib.Core.Path.{ap, ◌∙◌}
use Prim.Native.Nat.{ℕ}
use lib.Dec.{eqb}
use Rattle.routine_state.proofs.Laws.{flag_high, flag_far, flag_here}
use Rattle.routine_state.proofs.flag_of.Statement.{statement}
use Rattle.routine_state.proofs.flag_of.Tie as tie

pub flag_of_spec : {M : Type 1} → statement M
flag_of_spec =
    tie.close
    (tie.spec
    -- returns
    (λ c. flag_high _ _ _ c.if-j-gt8.true)
    -- returns-2
    (λ c. flag_far _ _ _ c.if-j-gt8.false c.if-v-gt31.true)
    -- mul-byte-at
    (λ c. search rules)
    -- add-byte-at
    (λ c. search rules)
    -- add-byte-at-2
    (λ c. search rules)
    -- byte-at-requires
    (λ c κs. search rules)
    -- returns-3
    (λ c. ap (λ (x : ℕ). eqb x 1) c.byte_at.ensures.0 ∙ flag_here _ _ _ c.if-j-gt8.false c.if-v-gt31.false))
