-- What is left of the sheet answers for the whole.
use Rattle.std.proofs.Common.{refl, sym, ◌∙◌, arith}
use Rattle.ordering.specs.Sheet.{is_rule, rules_only}
use Rattle.sheet_reader.proofs.Turns.{every_end, every_fails, every_next}
use Rattle.sheet_reader.proofs.rules_only.Goals as goal

pub loop-i-init : goal.loop-i-init
unfolding rules_only
loop-i-init c = refl

pub returns-then-not-is_rule : goal.returns-then-not-is_rule
returns-then-not-is_rule c =
    sym (c.loop-i.invariant ∙ every_fails is_rule c.args.sheet.now c.loop-i.i (omega arith) (sym c.is_rule.ensures ∙ c.if-not-is_rule.true))

pub loop-i-preserved : goal.loop-i-preserved
loop-i-preserved c =
    c.loop-i.invariant ∙ every_next is_rule c.args.sheet.now c.loop-i.i (omega arith) (sym c.is_rule.ensures ∙ c.if-not-is_rule.false)

pub returns : goal.returns
returns c = sym (c.loop-i.invariant ∙ every_end is_rule c.args.sheet.now c.loop-i.i (omega arith))
