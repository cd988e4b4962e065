-- Each turn adds to a row that has y what y reaches.
use Rattle.std.proofs.Common.{◌≡◌, ℕ, ◌≤◌, ◌<◌, length}
use Rattle.logic.specs.Search.{◌and◌, ◌or◌}
use Rattle.rows.specs.Square.{square}
use Rattle.closing.proofs.through.Given as goal

abbrev pub invariant-loop-row : goal.invariant-loop-row
invariant-loop-row l = record {
  long : length l.rows ≡ 17;
  passed : (x b : ℕ) → x < l.row-index → square l.rows x b ≡ square l.initial.rows x b or (square l.initial.rows x l.y and square l.initial.rows l.y b);
  left : (x b : ℕ) → l.row-index ≤ x → square l.rows x b ≡ square l.initial.rows x b;
}
