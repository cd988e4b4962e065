use Rattle.formula_reader.proofs.Laws.{begins-none, mark-E, mark-R, mark-D, mark-B}
use Rattle.formula.proofs.Marks.{mark-opening}
use Rattle.formula_reader.proofs.start_of.Goals as goal

pub returns-in-40 : goal.returns-in-40
returns-in-40 c = mark-opening c.in-40.is

pub returns-in-69 : goal.returns-in-69
returns-in-69 c = mark-E c.in-69.is

pub returns-in-82 : goal.returns-in-82
returns-in-82 c = mark-R c.in-82.is

pub returns-in-68 : goal.returns-in-68
returns-in-68 c = mark-D c.in-68.is

pub returns-in-66 : goal.returns-in-66
returns-in-66 c = mark-B c.in-66.is

pub returns-in_default : goal.returns-in_default
returns-in_default c = let r = c.in_default.in_default-own.rest in begins-none _ r.0.0.0.0.1 r.0.0.0.1 r.0.0.1 r.0.1 r.1
