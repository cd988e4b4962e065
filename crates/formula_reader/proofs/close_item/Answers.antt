use Rattle.std.proofs.Common.{refl, sym, ap, ◌∙◌, arith}
use Rattle.formula.specs.Reader.{done}
use Rattle.formula_reader.proofs.Readers.{closed_here, closed-not, stands_inside}
use Rattle.formula_reader.proofs.close_item.Goals as goal

pub returns-then-not-stands : goal.returns-then-not-stands
returns-then-not-stands c =
    rw c.at.ensures
    (c.requires, λ f. closed-not f c.args.text.now c.args.at (sym c.stands.ensures ∙ c.if-not-stands.true))

pub past_blanks-next-requires : goal.past_blanks-next-requires
past_blanks-next-requires c =
    let i = stands_inside c.args.text.now c.args.at 41 (sym c.stands.ensures ∙ c.if-not-stands.false) in omega arith

pub returns : goal.returns
returns c = (
  omega (arith, c.past_blanks-next.ensures.0),
  c.past_blanks-next.ensures.1,
  refl,
  λ f. closed_here f c.args.text.now c.args.at (sym c.stands.ensures ∙ c.if-not-stands.false)
      ∙ ap (done f) (sym c.past_blanks-next.ensures.2),
)
