-- What is left of the sheet answers for the whole.
use Rattle.std.proofs.Common.{◌≡◌, drop}
use Rattle.logic.specs.Search.{all}
use Rattle.ordering.specs.Sheet.{is_rule, rules_only}
use Rattle.sheet_reader.proofs.rules_only.Given as goal

abbrev pub invariant-loop-i : goal.invariant-loop-i
invariant-loop-i l = rules_only l.sheet ≡ all is_rule (drop l.i l.sheet)
