-- The heap is the saturated path's.
use Rattle.prover.proofs.Outcomes.{verdict_satisfiable, verdict_refuted}
use Rattle.prover.proofs.Answers.{reportable, report_room}
use Rattle.prover.proofs.Endings.{refuted_lines}
use Rattle.prover.proofs.decide.Goals as goal

pub returns-in_default : goal.returns-in_default
returns-in_default c = let (ls, e) = refuted_lines _ c.in_default.ensures in verdict_refuted _ _ _ ls _ e c.requires.4

pub write_report-requires : goal.write_report-requires
write_report-requires c =
    let p = c.requires in
    let r = reportable _ _ _ p.0 p.1 _ c.in-Some.ensures in
    (report_room _ _ _ p.0 p.1 _ r p.3, r)

pub returns : goal.returns
returns c = verdict_satisfiable _ _ _ _ _ c.in-Some.ensures c.write_report.ensures
