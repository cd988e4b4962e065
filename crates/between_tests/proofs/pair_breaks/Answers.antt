use Rattle.std.proofs.Common.{ℕ, Bool, not, sym, ap, ap₂, ◌∙◌, arith}
use lib.Dec.{leb}
use Rattle.between_search.specs.Tests.{agrees, due_pair, steps}
use Rattle.between_search.specs.Search.{entry}
use Rattle.between_tests.proofs.Laws.{node-read, pair_left, pair-right, pair-not_due, pair_due}
use Rattle.between_tests.proofs.pair_breaks.Goals as goal

pub returns-then-not-due_pair : goal.returns-then-not-due_pair
returns-then-not-due_pair c link s =
    pair-not_due link _ _ _ _
    (ap₂ (λ (x y : ℕ). due_pair x y c.args.t.0) (sym c.left-a.ensures) (sym c.right-b.ensures) ∙ sym c.due_pair.ensures ∙ c.if-not-due_pair.true)

pub node_of-requires : goal.node_of-requires
node_of-requires c = omega (arith, pair_left _ _ _ (sym c.due_pair.ensures ∙ c.if-not-due_pair.false), c.requires.2)

pub node_of-requires-2 : goal.node_of-requires-2
node_of-requires-2 c = omega (arith, pair-right _ _ _ (sym c.due_pair.ensures ∙ c.if-not-due_pair.false), c.requires.2)

pub step_of-count-requires : goal.step_of-count-requires
step_of-count-requires c = (rw (node-read _ _ _ c.node_of.ensures) (c.requires.1 _), rw (node-read _ _ _ c.node_of-2.ensures) (c.requires.1 _))

pub returns : goal.returns
returns c link s =
    ap not (c.agrees.ensures ∙ ap (λ (b : Bool). agrees b (leb c.step_of-count.result c.args.pairs.most)) c.sign.ensures)
    ∙ pair_due link _ _ _ _ _
    (ap₂ (λ (x y : ℕ). due_pair x y c.args.t.0) (sym c.left-a.ensures) (sym c.right-b.ensures) ∙ sym c.due_pair.ensures ∙ c.if-not-due_pair.false)
    (c.step_of-count.ensures
    ∙ s _ _ (rw (node-read _ _ _ c.node_of.ensures) (c.requires.1 _)) (rw (node-read _ _ _ c.node_of-2.ensures) (c.requires.1 _))
    ∙ ap₂ (λ (x y : ℕ). steps link x y)
    (node-read _ _ _ c.node_of.ensures ∙ ap (entry c.args.nodes.now) c.left-a.ensures)
    (node-read _ _ _ c.node_of-2.ensures ∙ ap (entry c.args.nodes.now) c.right-b.ensures))
