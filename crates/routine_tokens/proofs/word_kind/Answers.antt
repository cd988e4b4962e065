-- Assumes nothing.
use Rattle.std.proofs.Common.{arith, sym, ap, ◌∙◌}
use Rattle.routine_tokens.specs.Tokens.{reserved_kind}
use Rattle.routine_tokens.proofs.Rows.{kind_digit, kind_row, kind_reserved, kind_name}
use Rattle.routine_tokens.proofs.word_kind.Goals as goal

pub returns-then-is_digit : goal.returns-then-is_digit
returns-then-is_digit c = c.digit_kind.ensures ∙ kind_digit _ c.requires (sym c.is_digit.ensures ∙ c.if-is_digit.true)

pub returns-in_default : goal.returns-in_default
returns-in_default c =
    kind_name {row = 23} (omega arith) ∙ ap reserved_kind c.in_default.ensures ∙ kind_row _ c.requires (sym c.is_digit.ensures ∙ c.if-is_digit.false)

pub returns : goal.returns
returns c =
    let r = c.in-Some.ensures in
    kind_reserved r.0 ∙ ap reserved_kind r.1 ∙ kind_row _ c.requires (sym c.is_digit.ensures ∙ c.if-is_digit.false)
