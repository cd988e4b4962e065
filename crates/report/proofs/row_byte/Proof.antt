-- Eight bits of the row. Assumes nothing.
use borrow.Author.Rules.{rules}
use native.Mathlib.Omega.{arith}
use Prim.Native.Nat.{◌/◌, ◌^◌}
use lib.ListN.{get_or}
use Rattle.report.proofs.Held.{row_byte_is, row_byte_small}
use Rattle.report.proofs.row_byte.Statement.{statement}
use Rattle.report.proofs.row_byte.Tie as tie

pub row_byte_spec : {M : Type 1} → statement M
row_byte_spec =
    tie.close
    (tie.spec
    -- mul-result
    (λ c. search rules)
    -- element-copy-out-result
    (λ c. search rules)
    -- cast-result
    (λ c.
    record { fits = row_byte_small (get_or c.args.marks.now c.args.v 0 / 2 ^ 1) })
    -- returns
    (λ c. row_byte_is _ _ (omega arith)))
