-- 0 and 255 are kept. Assumes nothing.
use native.Mathlib.Omega.{arith}
use Rattle.joiner.proofs.Laws.{raised_kept, raised-nil, raised_more}
use Rattle.joiner.proofs.raised_entry.Statement.{statement}
use Rattle.joiner.proofs.raised_entry.Tie as tie

pub raised_entry_spec : {M : Type 1} → statement M
raised_entry_spec =
    tie.close
    (tie.spec
    -- returns
    (λ c. raised_kept _ _ c.if-e-eq0.true)
    -- returns-2
    (λ c. raised-nil _ _ c.if-e-eq255.true)
    -- add-result
    (λ c. omega (arith, c.requires))
    -- returns-3
    (λ c. raised_more _ _ c.if-e-eq0.false c.if-e-eq255.false))
