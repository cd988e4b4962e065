-- One term more is told; those of them that are terms at the end.
use Rattle.std.proofs.Common.{◌≡◌, ℕ, eqb, ap, arith}
use Rattle.facts.specs.Path.{path_of}
use Rattle.facts.proofs.Alive.{itself_more, live_path}
use Rattle.facts.proofs.Facts.live.Goals as goal

pub loop-t-preserved : goal.loop-t-preserved
loop-t-preserved c =
    let l = c.loop-t in
    itself_more _ l.t (omega arith) l.out _ _ (ap (λ (r : ℕ). eqb r l.t) c.from.ensures) c.with-out.ensures l.invariant

pub returns : goal.returns
unfolding path_of
returns c =
    let whole : c.loop-t.t ≡ 17 = omega arith in
    live_path _ (omega arith) _ _ _ c.term_row.ensures (rw whole at c.loop-t.invariant) _ _ _
