-- By the section. Assumes nothing.
use native.Mathlib.Omega.{arith}
use Rattle.joiner.proofs.Answers as law
use Rattle.joiner.proofs.start_in.Statement.{statement}
use Rattle.joiner.proofs.start_in.Tie as tie

pub start_in_spec : {M : Type 1} → statement M
start_in_spec =
    tie.close
    (tie.spec
    -- mul-second
    (λ c.
    omega (arith, c.requires.terms_within, c.requires.equal_within, c.requires.reach_within))
    -- mul-third
    (λ c.
    omega (arith, c.requires.terms_within, c.requires.equal_within, c.requires.reach_within))
    -- add-result
    (λ c.
    omega (arith, c.requires.terms_within, c.requires.equal_within, c.requires.reach_within))
    -- returns
    (λ c.
    law.start-second c.args.l c.args.query.now c.requires c.args.s c.if-s-eq2.true)
    -- add-result-2
    (λ c.
    omega (arith, c.requires.terms_within, c.requires.equal_within, c.requires.reach_within))
    -- add-result-3
    (λ c.
    omega (arith, c.requires.terms_within, c.requires.equal_within, c.requires.reach_within))
    -- returns-2
    (λ c.
    law.start_third c.args.l c.args.query.now c.requires c.args.s c.if-s-eq2.false c.if-s-eq3.true)
    -- add-result-4
    (λ c.
    omega (arith, c.requires.terms_within, c.requires.equal_within, c.requires.reach_within))
    -- add-result-5
    (λ c.
    omega (arith, c.requires.terms_within, c.requires.equal_within, c.requires.reach_within))
    -- add-result-6
    (λ c.
    omega (arith, c.requires.terms_within, c.requires.equal_within, c.requires.reach_within))
    -- returns-3
    (λ c.
    law.start_last c.args.l c.args.query.now c.requires c.args.s c.if-s-eq2.false c.if-s-eq3.false))
