use Rattle.std.proofs.Common.{◌≡◌, ◌+◌, ◌≤◌, List, length, drop}
use Rattle.logic.specs.Query.{Literal}
use Rattle.formula.specs.Meaning.{chosen}
use Rattle.formula_query.specs.Kept.{mark}
use Rattle.formula_query.proofs.count_marked.Given as goal

abbrev pub invariant-loop-i : goal.invariant-loop-i
invariant-loop-i l =
    (l.kept ≤ l.i)
    × ((ls : List Literal) → length ls ≡ l.count
    → l.kept + length (chosen (mark l.marks l.code) (l.i + 1) (drop l.i ls)) ≡ length (chosen (mark l.marks l.code) 1 ls))
