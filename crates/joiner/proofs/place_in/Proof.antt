-- Behind the literals before it. Assumes nothing.
use native.Mathlib.Omega.{arith}
use Rattle.joiner.proofs.Answers as law
use Rattle.joiner.proofs.place_in.Statement.{statement}
use Rattle.joiner.proofs.place_in.Tie as tie

pub place_in_spec : {M : Type 1} → statement M
place_in_spec =
    tie.close
    (tie.spec
    -- start-in-requires
    (λ c κs. c.requires.0)
    -- sub-result
    (λ c.
    omega (arith, c.requires.1, c.requires.2, c.start_in-start.ensures.1))
    -- mul-result
    (λ c.
    omega (arith, c.requires.1, c.requires.2, c.start_in-start.ensures.1))
    -- add-result
    (λ c.
    omega (arith, c.requires.1, c.requires.2, c.start_in-start.ensures.1))
    -- returns
    (λ c.
    law.place_there c.args.query.now c.args.s c.args.k c.start_in-start.ensures.0))
