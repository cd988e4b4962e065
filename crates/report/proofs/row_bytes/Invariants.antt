-- The numbers below v have their bytes. Assumes nothing.
use Rattle.std.proofs.Common.{◌≡◌, ℕ, ◌≤◌, ◌<◌, length, get_or}
use Rattle.logic.specs.Shown.{byte_of}
use Rattle.rows.specs.Square.{square}
use Rattle.report.proofs.row_bytes.Given as goal

abbrev pub invariant-loop-v : goal.invariant-loop-v
invariant-loop-v l = (length l.bytes ≡ 17) × ((x : ℕ) → 0 ≤ x → x < l.v → get_or l.bytes x 0 ≡ byte_of (square l.marks x) 1 8)
