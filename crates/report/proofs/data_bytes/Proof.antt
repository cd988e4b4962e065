-- The bytes of what is marked. Assumes nothing.
use native.Mathlib.Omega.{arith}
use borrow.Author.Rules.{rules}
use mathlib.Core.Path.{◌∙◌}
use Rattle.report.proofs.Held.{byte_alike}
use Rattle.report.proofs.data_bytes.Statement.{statement}
use Rattle.report.proofs.data_bytes.Tie as tie

pub data_bytes_spec : {M : Type 1} → statement M
data_bytes_spec =
    tie.close
    (tie.spec
    -- mark-fields-requires
    (λ c κs. search rules)
    -- row-bytes-requires
    (λ c κs. search rules)
    -- returns
    (λ c. λ v h. c.row_bytes.ensures v h ∙ byte_alike _ _ 1 8 (λ j l r. c.mark_fields-marks.ensures v j (omega arith) (omega arith))))
