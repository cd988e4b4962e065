-- A rule's own count is raised, and no other.
use Rattle.std.proofs.Common.{refl, arith}
use Rattle.tally.proofs.Counts.{raised_low, raised_high, raised_own}
use Rattle.tally.proofs.count_line.Goals as goal
use Rattle.tally.proofs.count_line.Goals.{else-kind-ge1-via-then-kind-ge1+else-kind-le8, else-kind-ge1-via-else-kind-ge1}

pub returns-then-kind-le8 : goal.returns-then-kind-le8
returns-then-kind-le8 c = raised_own c.args.counts.now c.args.kind _ _ c.requires.1 (omega arith) (omega arith) refl

pub returns-else-kind-ge1 : goal.returns-else-kind-ge1
returns-else-kind-ge1 c =
    elim c.else-kind-ge1.branch [
      | else-kind-ge1-via-then-kind-ge1+else-kind-le8 w ↦ raised_high c.args.counts.now c.args.kind c.requires.1 (omega arith)
      | else-kind-ge1-via-else-kind-ge1 w ↦ raised_low c.args.counts.now c.args.kind (omega arith)
    ]
