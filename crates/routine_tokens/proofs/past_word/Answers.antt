-- The bytes of the word from i on are left. Assumes nothing.
use Rattle.std.proofs.Common.{arith, sym, ◌∙◌}
use Rattle.routine_tokens.proofs.Bytes.{word_here, word_not, word_end}
use Rattle.routine_tokens.proofs.past_word.Goals as goal

pub returns-then-not-is_word_byte : goal.returns-then-not-is_word_byte
returns-then-not-is_word_byte c =
    let w = word_not c.args.text.now c.loop-i.i c.loop-i-test.true (sym c.is_word_byte.ensures ∙ c.if-not-is_word_byte.true) in
    (omega (arith, w, c.loop-i.invariant), omega arith)

pub loop-i-preserved : goal.loop-i-preserved
loop-i-preserved c =
    let w = word_here c.args.text.now c.loop-i.i c.loop-i-test.true (sym c.is_word_byte.ensures ∙ c.if-not-is_word_byte.false) in
    omega (arith, w, c.loop-i.invariant)

pub returns : goal.returns
returns c = (omega (arith, word_end c.args.text.now c.loop-i.i c.loop-i-test.false, c.loop-i.invariant), omega arith)
