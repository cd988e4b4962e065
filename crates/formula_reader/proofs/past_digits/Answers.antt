use Rattle.std.proofs.Common.{ℕ, ◌≡◌, sym, ◌∙◌, subst, arith, length, drop}
use Rattle.formula.specs.Places.{past_digits}
use Rattle.formula_reader.proofs.Laws.{digit_here, digit_not, digit_end, digit_low, digit_high, digit_in}
use Rattle.formula_reader.proofs.past_digits.Goals as goal

pub returns-then-b-lt48 : goal.returns-then-b-lt48
returns-then-b-lt48 c =
    (omega arith, omega arith, sym (digit_not _ _ c.loop-i-test.true (digit_low _ c.if-b-lt48.true)) ∙ c.loop-i.invariant)

pub returns-then-b-gt57 : goal.returns-then-b-gt57
returns-then-b-gt57 c =
    (omega arith, omega arith, sym (digit_not _ _ c.loop-i-test.true (digit_high _ c.if-b-gt57.true)) ∙ c.loop-i.invariant)

pub loop-i-preserved : goal.loop-i-preserved
loop-i-preserved c =
    sym (digit_here _ _ c.loop-i-test.true (digit_in _ c.if-b-lt48.false c.if-b-gt57.false)) ∙ c.loop-i.invariant

pub returns : goal.returns
returns c =
    let e : c.loop-i.i ≡ length c.args.text.now = omega arith in (
      c.requires,
      omega arith,
      subst (λ (n : ℕ). drop n c.args.text.now ≡ past_digits (drop c.args.at c.args.text.now)) e
          (sym (digit_end _ _ c.loop-i-test.false) ∙ c.loop-i.invariant),
    )
