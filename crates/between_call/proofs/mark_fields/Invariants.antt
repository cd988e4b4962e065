use Rattle.std.proofs.Common.{◌≡◌, length}
use Rattle.query.specs.LaysOut.{literal_in}
use Rattle.report.proofs.Held.{FieldMarks}
use Rattle.between_search.specs.Search.{entry}
use Rattle.between_call.proofs.mark_fields.Given as goal

abbrev pub invariant-loop-i : goal.invariant-loop-i
invariant-loop-i l = (length l.marks ≡ 17) × FieldMarks (entry l.nodes) (literal_in l.query l.at) l.count l.i l.marks
