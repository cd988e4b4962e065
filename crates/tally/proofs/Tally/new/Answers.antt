use Rattle.std.proofs.Common.{refl}
use Rattle.tally.specs.Counting.{no_lines}
use Rattle.tally.proofs.Tally.new.Goals as goal

pub returns : goal.returns
unfolding no_lines
returns c = refl
