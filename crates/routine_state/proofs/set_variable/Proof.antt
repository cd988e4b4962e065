-- One byte is stored. Assumes nothing.
use native.Mathlib.Omega.{arith}
use lib.ListN.{length-set}
use Rattle.routine_state.proofs.Stores.{variable_stored}
use Rattle.routine_state.proofs.set_variable.Statement.{statement}
use Rattle.routine_state.proofs.set_variable.Tie as tie

pub set_variable_spec : {M : Type 1} → statement M
set_variable_spec =
    tie.close
    (tie.spec
    -- cast-state
    (λ c. omega (arith, c.requires.1))
    -- add-state
    (λ c. omega (arith, c.requires.0))
    -- slice-write-state
    (λ c. omega (arith, c.requires.0, c.requires.2))
    -- same-length
    (λ c. simp length-set)
    -- returns
    (λ c. (simp length-set, variable_stored c.args.state.now c.requires.2 _ _ c.requires.0 c.requires.1)))
