-- The term that the links lead to is what the definition's own way leads to.
use Rattle.std.proofs.Common.{ap, ◌∙◌}
use Rattle.logic.specs.Rules.{CYCLE, equal}
use Rattle.alternatives.proofs.Steps.{followed, alternative_own}
use Rattle.alternatives.proofs.alternative.Goals as goal

pub returns-in-Cycle : goal.returns-in-Cycle
returns-in-Cycle c =
    let p = c.requires in
    let m = c.args.m in
    let f = followed _ _ _ _ _ _ p.0 p.3.0 c.follow.ensures.0 c.follow.ensures.1 in
    rw c.in-Cycle.is
    (ap (equal m.y.0) f.0 ∙ alternative_own m.link.0 c.args.n _ _ c.rows_of-own.ensures CYCLE m.x.0 m.y.0 m.z.0 c.args.i, (p.3.1, f.1))
