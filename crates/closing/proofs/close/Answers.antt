-- One link more is closed; all of them at the end.
use Rattle.std.proofs.Common.{◌+◌, arith}
use Rattle.facts.specs.Path.{path_of}
use Rattle.closing.proofs.Rows.{closed_more, path-closed}
use Rattle.closing.proofs.close.Goals as goal

pub loop-k-preserved : goal.loop-k-preserved
loop-k-preserved c =
    let i = c.loop-k.invariant in record {
      same_rep = i.same_rep;
      same_single = i.same_single;
      same_link = i.same_link;
      long = c.close_by.ensures.2;
      closed = closed_more _ _ _ c.loop-k.k _ _ (rw i.same_link at c.close_by.ensures.0) c.close_by.ensures.1 i.closed;
    }

pub returns-2 : goal.returns-2
unfolding path_of
returns-2 c =
    let i = c.loop-k.invariant in
    path-closed _ _ _ _ _ _ _ _ _ _ i.same_single i.same_rep i.same_link c.live-alive.ensures (c.loop-k.k + 1) (omega (arith, c.links-k-end.ensures.0))
    (closed_more _ _ _ c.loop-k.k _ _ (rw i.same_link at c.close_by.ensures.0) c.close_by.ensures.1 i.closed) c.requires
