-- A byte fits. Assumes nothing.
use native.Mathlib.Omega.{arith}
use mathlib.Core.Path.{refl, sym}
use Rattle.ordering.proofs.Sheets.{laid_length}
use Rattle.sheet_reader.proofs.count.Statement.{statement}
use Rattle.sheet_reader.proofs.count.Tie as tie

pub count_spec : {M : Type 1} → statement M
count_spec =
    tie.close
    (tie.spec
    -- shared-slice-read-result
    (λ c. omega (arith, laid_length _ c.requires))
    -- cast-result
    (λ c. omega (arith, c.shared_slice_known-1.given 0))
    -- returns
    (λ c. (refl, sym (laid_length _ c.requires))))
