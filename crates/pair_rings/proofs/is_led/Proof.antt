-- The mark of a. Assumes nothing.
use native.Mathlib.Omega.{arith}
use Rattle.pair_rings.proofs.is_led.Statement.{statement}
use Rattle.pair_rings.proofs.is_led.Tie as tie

pub is_led_spec : {M : Type 1} → statement M
is_led_spec =
    tie.close
    (tie.spec
    -- row-to-requires
    (λ c κs.
    (c.requires.0, c.requires.1, c.requires.3))
    -- array-read-result
    (λ c. omega (arith, c.requires.2))
    -- returns
    (λ c.
    c.row_to-row.ensures c.args.a (omega (arith, c.requires.2))))
