-- One link more has the fact; all of them at the end.
use Rattle.std.proofs.Common.{◌+◌, arith}
use Rattle.facts.specs.Path.{path_of}
use Rattle.facts.proofs.Adding.{added_more, added_path}
use Rattle.facts.proofs.Facts.add_links.Goals as goal

pub loop-k-preserved : goal.loop-k-preserved
loop-k-preserved c =
    let l = c.loop-k.invariant in
    (l.0, l.1, l.2, c.add.ensures.1, added_more _ _ _ _ _ c.loop-k.k (omega arith) c.add.ensures.0 l.4)

pub returns-2 : goal.returns-2
unfolding path_of
returns-2 c =
    let l = c.loop-k.invariant in
    added_path _ _ _ _ _ _ _ _ _ _ (c.loop-k.k + 1) l.1 l.0 l.2 (omega arith) (added_more _ _ _ _ _ c.loop-k.k (omega arith) c.add.ensures.0 l.4)
