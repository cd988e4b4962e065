-- Assumes nothing.
use native.Mathlib.Omega.{arith}
use Rattle.decimal_lines.proofs.Reading.{place_on, place_back}
use Rattle.decimal_lines.proofs.next_place.Statement.{statement}
use Rattle.decimal_lines.proofs.next_place.Tie as tie

pub next_place_spec : {M : Type 1} → statement M
next_place_spec =
    tie.close
    (tie.spec
    -- add-result
    (λ c. omega arith)
    -- returns
    (λ c. (place_on _ c.if-place-lt3.true, omega arith))
    -- returns-2
    (λ c. (place_back _ c.if-place-lt3.false, omega arith)))
