-- One law for each return.
use Rattle.std.proofs.Common.{sym, ap, ◌∙◌}
use Rattle.rules.specs.Answers.{numbered_of, choice_of}
use Rattle.rule_choice.specs.Answers.{place_of}
use Rattle.rule_choice.proofs.Searches.{looks_some}
use Rattle.rule_choice.proofs.Nested.{tried_none, tried_nowhere, tried_is}
use Rattle.rule_choice.proofs.tried.Goals as goal

pub returns-in_err-rule : goal.returns-in_err-rule
returns-in_err-rule c = ap choice_of c.from_residual.ensures ∙ sym (tried_none _ _ _ _ _ (sym c.numbered.ensures ∙ ap numbered_of c.in_err-rule.was))

pub smallest-requires : goal.smallest-requires
smallest-requires c = (c.requires.0, λ e. c.requires.1 (looks_some _ _ (sym c.numbered.ensures ∙ ap numbered_of c.in_ok-rule.was) ∙ e))

pub returns-in_err-x : goal.returns-in_err-x
returns-in_err-x c =
    ap choice_of c.from_residual-in_err-x.ensures
    ∙ sym (tried_nowhere _ _ _ _ _ _ (sym c.numbered.ensures ∙ ap numbered_of c.in_ok-rule.was) (sym c.smallest.ensures ∙ ap place_of c.in_err-x.was))

pub returns : goal.returns
returns c =
    sym (tried_is _ _ _ _ _ _ _ (sym c.numbered.ensures ∙ ap numbered_of c.in_ok-rule.was) (sym c.smallest.ensures ∙ ap place_of c.in_ok-x.was))
