-- The separators from i on are left. Assumes nothing.
use Rattle.std.proofs.Common.{arith, sym, ◌∙◌}
use Rattle.routine_tokens.proofs.Bytes.{separator_here, separator_not, separators_end}
use Rattle.routine_tokens.proofs.past_separators.Goals as goal

pub returns-then-not-separates : goal.returns-then-not-separates
returns-then-not-separates c =
    let n = separator_not c.args.text.now c.loop-i.i c.loop-i-test.true c.loop-i.comment (sym c.separates.ensures ∙ c.if-not-separates.true) in
    omega (arith, n, c.loop-i.invariant.1)

pub loop-i-preserved : goal.loop-i-preserved
loop-i-preserved c =
    let s = separator_here c.args.text.now c.loop-i.i c.loop-i-test.true c.loop-i.comment (sym c.separates.ensures ∙ c.if-not-separates.false) in
    (λ h. absurd (omega arith), rw c.in_comment-comment.ensures (omega (arith, s, c.loop-i.invariant.1)))

pub returns : goal.returns
returns c =
    let e = separators_end c.args.text.now c.loop-i.i c.loop-i.comment c.loop-i-test.false in
    grind (arith, e, c.loop-i.invariant, c.max.ensures)
