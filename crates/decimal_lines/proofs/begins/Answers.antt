use Rattle.std.proofs.Common.{◌∙◌}
use Rattle.decimal_lines.proofs.Reading.{begins_with}
use Rattle.decimal_lines.proofs.begins.Goals as goal

pub returns : goal.returns
returns c = c.starts_with.ensures.value ∙ begins_with c.args.word.now c.args.bytes.now
