-- After some terms, those are renamed.
use Rattle.std.proofs.Common.{◌≡◌, length}
use Rattle.facts.specs.Path.{rep_of, replace_rep}
use Rattle.rows.proofs.Fill.{Filled}
use Rattle.facts.proofs.replace_rep.Given as goal

abbrev pub invariant-loop-t : goal.invariant-loop-t
invariant-loop-t l = (length l.rep ≡ 17) × Filled (replace_rep l.low l.high (rep_of l.initial.rep)) (rep_of l.initial.rep) l.t (rep_of l.rep)
