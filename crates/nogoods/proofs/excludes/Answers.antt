use mathlib.Core.Path.{refl}
use Rattle.nogoods.proofs.Branching.{excludes_made}
use Rattle.nogoods.proofs.excludes.Goals as goal

pub returns-then-path-eq0 : goal.returns-then-path-eq0
returns-then-path-eq0 c e = (
  c.covers.ensures c.if-not-covers.false,
  excludes_made _ _ _ _ _ _ refl c.branch-path.ensures c.if-path-eq0.true (c.covers-then-path-eq0.ensures e),
)
