use Rattle.std.proofs.Common.{◌+◌, ◌*◌, ◌≤◌}
use Rattle.query.specs.LaysOut.{literal_in}
use Rattle.text.proofs.Writing.{Part}
use Rattle.formula_query.specs.Kept.{mark}
use Rattle.formula_query.proofs.Laws.{kept}
use Rattle.formula_query.proofs.put_literals.Given as goal

abbrev pub invariant-loop-i : goal.invariant-loop-i
invariant-loop-i l =
    let s = l.section in
    (l.end ≤ l.initial.end + 3 * l.i)
    × Part l.initial.out l.initial.end (kept (mark l.marks s.code) (literal_in l.query s.at) s.count 0)
    l.out l.end (kept (mark l.marks s.code) (literal_in l.query s.at) s.count l.i)
