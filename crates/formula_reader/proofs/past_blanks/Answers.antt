use Rattle.std.proofs.Common.{ℕ, ◌≡◌, sym, ◌∙◌, subst, arith, length, drop}
use Rattle.formula.specs.Reader.{past_blanks}
use Rattle.formula_reader.proofs.Laws.{blank_here, blank-not, blank_end}
use Rattle.formula_reader.proofs.past_blanks.Goals as goal

pub returns-then-b-ne32 : goal.returns-then-b-ne32
returns-then-b-ne32 c =
    (omega arith, omega arith, sym (blank-not _ _ c.loop-i-test.true c.if-b-ne32.true) ∙ c.loop-i.invariant)

pub loop-i-preserved : goal.loop-i-preserved
loop-i-preserved c = sym (blank_here _ _ c.loop-i-test.true c.if-b-ne32.false) ∙ c.loop-i.invariant

pub returns : goal.returns
returns c =
    let e : c.loop-i.i ≡ length c.args.text.now = omega arith in (
      c.requires,
      omega arith,
      subst (λ (n : ℕ). drop n c.args.text.now ≡ past_blanks (drop c.args.at c.args.text.now)) e
          (sym (blank_end _ _ c.loop-i-test.false) ∙ c.loop-i.invariant),
    )
