-- An empty sheet has no count, and the others are tested as they are defined. Assumes nothing.
use native.Mathlib.Omega.{arith}
use borrow.Author.Rules.{rules}
use mathlib.Core.Path.{sym}
use Rattle.logic.specs.Search.{◌and◌}
use Rattle.ordering.specs.Sheet.{laid_out}
use Rattle.ordering.proofs.Sheets.{laid_empty}
use Rattle.sheet_reader.proofs.laid_out.Statement.{statement}
use Rattle.sheet_reader.proofs.laid_out.Tie as tie

returns_2 : tie.Need-returns
unfolding laid_out ◌and◌
returns_2 c = search rules

pub laid_out_spec : {M : Type 1} → statement M
laid_out_spec =
    tie.close
    (tie.spec
    -- returns
    (λ c. sym (laid_empty _ c.if-n-eq0.true))
    -- shared-slice-read-count
    (λ c. search rules)
    -- cast-count
    (λ c. omega (arith, c.shared_slice_known-1.given 0))
    -- mul-result
    (λ c. omega (arith, c.shared_slice_known-1.given 0))
    -- add-result
    (λ c. omega (arith, c.shared_slice_known-1.given 0))
    returns_2)
