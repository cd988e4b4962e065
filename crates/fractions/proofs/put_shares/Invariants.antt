-- The shares from this one on are left.
use Rattle.std.proofs.Common.{◌≡◌, ◌≤◌, ◌*◌}
use Rattle.text.proofs.Writing.{Part}
use Rattle.fractions.specs.Fractions.{total_of, shares_text}
use Rattle.fractions.proofs.Shares.{shares_left}
use Rattle.fractions.proofs.put_shares.Given as goal

abbrev pub invariant-loop-count : goal.invariant-loop-count
invariant-loop-count l = (l.to ≤ 42 * l.count-index) × (l.total ≡ total_of l.fn.counts) × Part l.initial.buffer 0 (shares_text l.fn.counts) l.buffer l.to (shares_left l.total l.fn.counts l.count-index)
