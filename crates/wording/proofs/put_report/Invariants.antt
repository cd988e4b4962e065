-- The bytes from i on are left.
use Rattle.text.proofs.Writing.{Part}
use Rattle.wording.proofs.Texts.{left}
use Rattle.wording.proofs.put_report.Given as goal

abbrev pub invariant-loop-i : goal.invariant-loop-i
invariant-loop-i l = Part l.initial.buffer l.initial.to (left l.size l.report 1) l.buffer l.to (left l.size l.report l.i)
