-- After k links, those are closed, and nothing else changes.
use Rattle.std.proofs.Common.{◌≡◌, length}
use Rattle.rows.specs.Bits.{bit}
use Rattle.closing.proofs.Rows.{ClosedBelow}
use Rattle.closing.proofs.close.Given as goal

abbrev pub invariant-loop-k : goal.invariant-loop-k
invariant-loop-k l = record {
  same_rep : l.s.rep ≡ l.initial.s.rep;
  same_single : l.s.single ≡ l.initial.s.single;
  same_link : l.s.link ≡ l.initial.s.link;
  long : length l.s.reach ≡ 51;
  closed : ClosedBelow (bit l.alive) l.initial.s.link l.initial.s.reach l.k l.s.reach;
}
