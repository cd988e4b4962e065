-- No term below t names nil.
use Rattle.std.proofs.Common.{sym, ◌∙◌, arith}
use Rattle.nil_terms.proofs.Nil.{nil_end, nil_here, nil-next}
use Rattle.nil_terms.proofs.first_nil.Goals as goal

pub loop-t-preserved : goal.loop-t-preserved
loop-t-preserved c = c.loop-t.invariant ∙ nil-next _ _ _ (omega arith) (sym c.names_nil.ensures ∙ c.if-names_nil.false)

pub returns-then-names_nil : goal.returns-then-names_nil
returns-then-names_nil c = (omega arith, c.loop-t.invariant ∙ nil_here _ _ _ (omega arith) (sym c.names_nil.ensures ∙ c.if-names_nil.true))

pub returns : goal.returns
returns c = c.loop-t.invariant ∙ nil_end _ _ _ (omega arith)
