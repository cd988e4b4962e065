-- Each turn closes the rows through one more term.
use Rattle.std.proofs.Common.{◌≡◌, ℕ, Bool, length}
use Rattle.rows.specs.Square.{square}
use Rattle.closing.specs.Rows.{Within, Above}
use Rattle.closing.proofs.Rows.{OnwardBelow}
use Rattle.closing.proofs.pass_on.Given as goal

abbrev pub invariant-loop-y : goal.invariant-loop-y
invariant-loop-y l = record {
  long : length l.rows ≡ 17;
  within : (alive : ℕ → Bool) (link reach : ℕ → ℕ → Bool) → Within alive link reach l.initial.rows → Within alive link reach l.rows;
  above : Above (square l.initial.rows) l.rows;
  onward : OnwardBelow l.rows l.y;
}
