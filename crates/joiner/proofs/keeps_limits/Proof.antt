-- The limits, one behind the other. Assumes nothing.
use native.Mathlib.Omega.{arith}
use mathlib.Core.Path.{refl}
use Rattle.joiner.specs.Bytes.{keeps_limits}
use Rattle.joiner.proofs.keeps_limits.Statement.{statement}
use Rattle.joiner.proofs.keeps_limits.Tie as tie

-- returns
returns : tie.Need-returns
unfolding keeps_limits
returns c = refl

pub keeps_limits_spec : {M : Type 1} → statement M
keeps_limits_spec =
    tie.close
    (tie.spec
    -- add-terms
    (λ c.
    omega (arith, c.requires.0.terms_within, c.requires.1.terms_within))
    -- add-equal
    (λ c.
    omega (arith, c.requires.0.equal_within, c.requires.1.equal_within))
    -- add-equal-2
    (λ c.
    omega (arith, c.requires.0.equal_within, c.requires.1.equal_within, c.requires.2))
    -- add-reach
    (λ c.
    omega (arith, c.requires.0.reach_within, c.requires.1.reach_within))
    -- add-field
    (λ c.
    omega (arith, c.requires.0.field_within, c.requires.1.field_within))
    returns)
