-- What the search finds is answered, and reported. Assumes nothing.
use Rattle.std.proofs.Common.{sym}
use Rattle.between_call.proofs.Answering.{ready_given, none_does, heap_does, reportable}
use Rattle.between_call.proofs.answer.Goals as goal

pub heap_found-requires : goal.heap_found-requires
heap_found-requires c = ready_given _ _ _ _ c.requires.0 _ c.opposed_table-apart.ensures

pub returns-in_default : goal.returns-in_default
returns-in_default c = none_does _ _ _ _ c.requires.0 (sym c.in_default.ensures) _ _ c.clear.ensures

pub write_report-requires : goal.write_report-requires
write_report-requires c = (c.requires.1, reportable _ _ _ _ c.requires.0 _ (sym c.in-Some.ensures))

pub returns : goal.returns
returns c = heap_does _ _ _ _ c.requires.0 _ (sym c.in-Some.ensures) _ _ (c.write_report.ensures _)
