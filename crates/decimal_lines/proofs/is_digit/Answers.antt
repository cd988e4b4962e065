use Rattle.std.proofs.Common.{◌∙◌}
use borrow.Author.Tests.{lt-leb}
use Rattle.decimal_lines.proofs.Reading.{digit_low, digit_test}
use Rattle.decimal_lines.proofs.is_digit.Goals as goal

pub returns-then-c-ge48 : goal.returns-then-c-ge48
returns-then-c-ge48 c = digit_test _ c.if-c-ge48.true

pub returns-else-c-ge48 : goal.returns-else-c-ge48
returns-else-c-ge48 c = lt-leb 48 c.args.c c.if-c-ge48.false ∙ digit_low _ c.if-c-ge48.false
