-- Each test that fails, and the last one. Assumes nothing.
use native.Mathlib.Omega.{arith}
use Rattle.joiner.proofs.Answers as law
use Rattle.joiner.proofs.is_pair_list.Statement.{statement}
use Rattle.joiner.proofs.is_pair_list.Tie as tie

pub is_pair_list_spec : {M : Type 1} → statement M
is_pair_list_spec =
    tie.close
    (tie.spec
    -- returns
    (λ c.
    law.list_empty c.args.n c.args.m c.args.pairs.now c.if-len-eq0.true)
    -- byte-at-requires
    (λ c κs. omega (arith, c.if-len-eq0.false))
    -- returns-2
    (λ c.
    law.list_high c.args.n c.args.m c.args.pairs.now c.byte_at-count.ensures c.if-count-gt60.true)
    -- mul-if3
    (λ c. omega (arith, c.if-count-gt60.false))
    -- add-if3
    (λ c. omega (arith, c.if-count-gt60.false))
    -- returns-3
    (λ c.
    law.list_wrong c.args.n c.args.m c.args.pairs.now c.byte_at-count.ensures c.if-len-count.true)
    -- have-terms-requires
    (λ c κs. c.if-len-count.false)
    -- returns-4
    (λ c.
    law.list_right c.args.n c.args.m c.args.pairs.now c.byte_at-count.ensures c.if-count-gt60.false c.if-len-count.false c.have_terms.ensures))
