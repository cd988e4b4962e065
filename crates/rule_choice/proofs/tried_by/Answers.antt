-- The first of three that finds a move is the answer.
use Rattle.std.proofs.Common.{sym, ap, ◌∙◌}
use Rattle.rules.specs.Answers.{choice_of}
use Rattle.rule_choice.proofs.Nested.{or_else_here, or_else_next}
use Rattle.rule_choice.proofs.tried_by.Goals as goal

pub returns-in-Some : goal.returns-in-Some
returns-in-Some c = sym (or_else_here _ _ (sym c.tried_at.ensures ∙ ap choice_of c.in-Some.is))

pub returns-in-Some-tried_at : goal.returns-in-Some-tried_at
returns-in-Some-tried_at c =
    sym
    (or_else_next _ _ (sym c.tried_at.ensures ∙ ap choice_of c.in_default.is)
    ∙ or_else_here _ _ (sym c.tried_at-2.ensures ∙ ap choice_of c.in-Some-tried_at.is))

pub returns : goal.returns
returns c =
    c.tried_at-3.ensures
    ∙ sym
    (or_else_next _ _ (sym c.tried_at.ensures ∙ ap choice_of c.in_default.is)
    ∙ or_else_next _ _ (sym c.tried_at-2.ensures ∙ ap choice_of c.in_default-tried_at.is))
