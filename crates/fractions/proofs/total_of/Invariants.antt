-- The counts from this one on are left.
use Rattle.std.proofs.Common.{◌≡◌, ◌≤◌, ◌+◌, ◌*◌, drop}
use Rattle.fractions.specs.Fractions.{total_of}
use Rattle.fractions.proofs.total_of.Given as goal

abbrev pub invariant-loop-count : goal.invariant-loop-count
invariant-loop-count l = (l.sum ≤ 4294967295 * l.count-index) × (l.sum + total_of (drop l.count-index l.fn.counts) ≡ total_of l.fn.counts)
