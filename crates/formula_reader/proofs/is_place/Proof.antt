-- The first byte decides: what follows it are the digits at the place. Assumes nothing.
use native.Mathlib.Omega.{arith}
use Rattle.formula_reader.proofs.Laws.{is_place_lem, place_end}
use Rattle.formula_reader.proofs.is_place.Statement.{statement}
use Rattle.formula_reader.proofs.is_place.Tie as tie

pub is_place_spec : {M : Type 1} → statement M
is_place_spec =
    tie.close
    (tie.spec
    -- shared-slice-read-b
    (λ c. omega arith)
    -- returns
    (λ c. is_place_lem _ _ c.if-at-text.true)
    -- returns-2
    (λ c. place_end _ _ c.if-at-text.false))
