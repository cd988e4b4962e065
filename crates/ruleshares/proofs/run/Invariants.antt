-- The rounds so far have gone on from the start to where the program stands.
use Rattle.std.proofs.Common.{◌≡◌, ◌<◌, length, take}
use Rattle.sharing.proofs.Loops.{Gone}
use Rattle.ruleshares.proofs.run.Given as goal

abbrev pub invariant-loop-before : goal.invariant-loop-before
invariant-loop-before g l = (l.held.filled < 65536) × (length l.input ≡ 65536) × (length l.text ≡ 65536) × Gone l.tally.counts (take l.held.filled l.input) l.held.ended l.before
