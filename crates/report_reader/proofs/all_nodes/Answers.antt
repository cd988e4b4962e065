use Rattle.std.proofs.Common.{sym, ◌∙◌}
use Rattle.rows.proofs.Loops.{all_end, all_fails, all_next}
use Rattle.report_reader.proofs.Laws.{no_node, is_node_lem}
use Rattle.report_reader.proofs.all_nodes.Goals as goal

pub returns-then-v-m : goal.returns-then-v-m
returns-then-v-m c = sym (all_fails _ _ _ c.loop-i-test.true (no_node _ c.byte_at-v.ensures.0 c.if-v-m.true)) ∙ c.loop-i.invariant

pub loop-i-preserved : goal.loop-i-preserved
loop-i-preserved c = sym (all_next _ _ _ c.loop-i-test.true (is_node_lem _ c.byte_at-v.ensures.0 c.if-v-m.false)) ∙ c.loop-i.invariant

pub returns : goal.returns
returns c = sym (all_end _ _ _ c.loop-i-test.false) ∙ c.loop-i.invariant
