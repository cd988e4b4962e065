use Rattle.std.proofs.Common.{ℕ, ◌+◌, drop, sym, ap, ◌∙◌}
use Rattle.formula.specs.Grammar.{shown}
use Rattle.formula.specs.Places.{digits_at}
use Rattle.formula_reader.specs.Answers.{saturated}
use Rattle.formula_reader.proofs.Laws.{shown_next, shown_end, digits_not, digits_end, digit_low, digit_high, digit_in, saturated_bound}
use Rattle.formula_reader.proofs.place_at.Goals as goal

pub returns-then-b-lt48 : goal.returns-then-b-lt48
returns-then-b-lt48 c =
    sym (shown_end c.args.text.now c.loop-i.i c.loop-i.v
    (digits_not c.args.text.now c.loop-i.i c.loop-i-test.true (digit_low _ c.if-b-lt48.true)) c.loop-i.invariant.0)
    ∙ c.loop-i.invariant.1

pub returns-then-b-gt57 : goal.returns-then-b-gt57
returns-then-b-gt57 c =
    sym (shown_end c.args.text.now c.loop-i.i c.loop-i.v
    (digits_not c.args.text.now c.loop-i.i c.loop-i-test.true (digit_high _ c.if-b-gt57.true)) c.loop-i.invariant.0)
    ∙ c.loop-i.invariant.1

pub loop-i-preserved : goal.loop-i-preserved
loop-i-preserved c = (
  saturated_bound _ c.with_digit-v.ensures,
  ap (λ (v : ℕ). saturated (shown v (digits_at (drop (c.loop-i.i + 1) c.args.text.now)))) c.with_digit-v.ensures
      ∙ sym (shown_next c.args.text.now c.loop-i.i c.loop-i.v c.loop-i-test.true (digit_in _ c.if-b-lt48.false c.if-b-gt57.false))
      ∙ c.loop-i.invariant.1,
)

pub returns : goal.returns
returns c =
    sym (shown_end c.args.text.now c.loop-i.i c.loop-i.v
    (digits_end c.args.text.now c.loop-i.i c.loop-i-test.false) c.loop-i.invariant.0)
    ∙ c.loop-i.invariant.1
