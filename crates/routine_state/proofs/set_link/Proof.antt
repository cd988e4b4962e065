-- One byte is stored. Assumes nothing.
use native.Mathlib.Omega.{arith}
use lib.ListN.{length-set}
use Rattle.routine_state.proofs.Stores.{link_stored}
use Rattle.routine_state.proofs.set_link.Statement.{statement}
use Rattle.routine_state.proofs.set_link.Tie as tie

pub set_link_spec : {M : Type 1} → statement M
set_link_spec =
    tie.close
    (tie.spec
    -- cast-state
    (λ c. omega (arith, c.requires.2))
    -- mul-state
    (λ c. omega (arith, c.requires.0))
    -- add-state
    (λ c. omega (arith, c.requires.0, c.requires.1))
    -- slice-write-state
    (λ c. omega (arith, c.requires.0, c.requires.1, c.requires.3))
    -- same-length
    (λ c. simp length-set)
    -- returns
    (λ c. (simp length-set, link_stored c.args.state.now c.requires.3 _ _ _ c.requires.0 c.requires.1 c.requires.2)))
