-- Each turn adds to a row what REFLEX and TRANS1 give.
use Rattle.std.proofs.Common.{◌≡◌, length}
use Rattle.rows.specs.Bits.{bit}
use Rattle.rows.specs.Square.{square}
use Rattle.closing.specs.Rows.{Within, Above}
use Rattle.closing.proofs.Rows.{SeededBelow}
use Rattle.closing.proofs.seed.Given as goal

abbrev pub invariant-loop-a : goal.invariant-loop-a
invariant-loop-a l = record {
  long : length l.reach ≡ 17;
  within : Within (bit l.alive) (square l.link) (square l.initial.reach) l.reach;
  above : Above (square l.initial.reach) l.reach;
  seeded : SeededBelow l.alive l.link l.a l.reach;
}
