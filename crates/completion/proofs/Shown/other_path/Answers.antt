-- The terms in order: the first that begins a path without v, and none where all were passed.
use Rattle.std.proofs.Common.{sym, ◌∙◌, arith}
use Rattle.rows.proofs.Loops.{find_end, find_here, find_next}
use Rattle.completion.proofs.Shown.other_path.Goals as goal

pub returns-then-begins_without : goal.returns-then-begins_without
returns-then-begins_without c = sym (c.loop-b.invariant ∙ find_here _ _ _ (omega arith) (sym c.begins_without.ensures ∙ c.if-begins_without.true))

pub loop-b-preserved : goal.loop-b-preserved
loop-b-preserved c = c.loop-b.invariant ∙ find_next _ _ _ (omega arith) (sym c.begins_without.ensures ∙ c.if-begins_without.false)

pub returns : goal.returns
returns c = sym (c.loop-b.invariant ∙ find_end _ _ _ (omega arith))

pub returns-else-begins_without : goal.returns-else-begins_without
returns-else-begins_without c =
    sym (c.loop-b.invariant ∙ find_next _ _ _ (omega arith) (sym c.begins_without.ensures ∙ c.if-begins_without.false) ∙ find_end _ _ _ (omega arith))
