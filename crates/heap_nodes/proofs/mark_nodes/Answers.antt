use Rattle.std.proofs.Common.{ℕ, ap, sym, ◌∙◌, arith, rules}
use lib.ListN.{length-set}
use lib.Dec.{eqb}
use Rattle.facts.proofs.Rep.{rep_in}
use Rattle.heap_nodes.specs.Nodes.{nodes_by}
use Rattle.heap_nodes.proofs.Nodes.{marked-none, marked_more, marked_all}
use Rattle.heap_nodes.proofs.mark_nodes.Goals as goal

pub loop-t-init : goal.loop-t-init
loop-t-init c = marked-none _ _ _ (search rules)

pub loop-t-preserved : goal.loop-t-preserved
loop-t-preserved c =
    let l = c.loop-t in
    marked_more _ _ l.t l.marks _ l.invariant (omega arith) (omega arith) _
    (ap (λ (r : ℕ). eqb r l.t) (c.from.ensures ∙ sym (rep_in _ l.t (omega arith))))
    (simp length-set l.invariant.full)

pub returns : goal.returns
unfolding nodes_by
returns c = marked_all _ _ _ _ _ c.loop-t.invariant (omega arith) (omega arith)
