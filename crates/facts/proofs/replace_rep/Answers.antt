-- One term more is renamed; all of them at the end.
use Rattle.std.proofs.Common.{◌≡◌, ap, ◌∙◌, length, eq-eqb, ne_eqb, arith}
use Rattle.std.proofs.Math.ListN.{length-set}
use Rattle.facts.proofs.Rep.{renamed_more, kept_more, renamed_all}
use Rattle.facts.proofs.replace_rep.Goals as goal
use Rattle.facts.proofs.replace_rep.Goals.{then-rep-t, else-rep-t}

pub loop-t-preserved : goal.loop-t-preserved
loop-t-preserved c =
    let l = c.loop-t in let full = l.invariant.0 in
    elim c.if-rep-t.branch [
      | then-rep-t w ↦ (
        ap length w.rep-is ∙ simp length-set full,
        rw w.rep-is (renamed_more _ _ _ l.t (omega arith) l.rep full _ (rw (eq-eqb _ _ w.if-rep-t.true)) l.invariant.1),
      )
      | else-rep-t w ↦ (
        ap length w.rep-is ∙ full,
        rw w.rep-is (kept_more _ _ _ l.t (omega arith) l.rep (ne_eqb _ _ w.if-rep-t.false) l.invariant.1),
      )
    ]

pub returns : goal.returns
returns c =
    let whole : c.loop-t.t ≡ 17 = omega arith in
    (renamed_all _ _ _ (omega arith) _ (rw whole at c.loop-t.invariant.1), c.loop-t.invariant.0)
