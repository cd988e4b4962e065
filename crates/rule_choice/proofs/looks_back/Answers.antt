-- A number that is a rule's says what its rule does.
use Rattle.std.proofs.Common.{sym, ap, ◌∙◌}
use Rattle.rules.specs.Answers.{numbered_of}
use Rattle.rule_choice.proofs.Searches.{looks_some, looks-none}
use Rattle.rule_choice.proofs.looks_back.Goals as goal

pub returns-in-Some : goal.returns-in-Some
returns-in-Some c = c.two_way.ensures ∙ sym (looks_some _ _ (sym c.numbered.ensures ∙ ap numbered_of c.in-Some.is))

pub returns-in-None : goal.returns-in-None
returns-in-None c = sym (looks-none _ (sym c.numbered.ensures ∙ ap numbered_of c.in-None.is))
