-- Turns one after the other: what was made and what is still printed of the bytes that are not taken make the whole.
use Rattle.std.proofs.Common.{◌≡◌, ◌-◌, ◌≤◌, length, take}
use Rattle.share_stream.proofs.Rounds.{Going}
use Rattle.share_stream.proofs.take_turns.Given as goal

abbrev pub invariant-loop-text : goal.invariant-loop-text
invariant-loop-text l = record {
  past_order : l.ordered ≤ l.at;
  held_fits : l.at ≤ length l.held;
  made_fits : l.made ≤ length l.text;
  none_yet : l.at ≤ l.ordered → l.made ≡ 0;
  going : Going l.initial.tally.counts l.held l.ended (take l.made l.text) l.tally.counts l.at;
}

abbrev pub decreases-loop-text : goal.decreases-loop-text
decreases-loop-text l = length l.held - l.at
