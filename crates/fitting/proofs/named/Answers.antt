-- By its link, and by what is left of it.
use Rattle.std.proofs.Common.{sym, ap, ◌∙◌}
use Rattle.rules.specs.Answers.{numbered_of, choice_of}
use Rattle.fitting.proofs.Moves.{named_beyond, named_unruled, named_is}
use Rattle.fitting.proofs.named.Goals as goal

pub returns-then-links-k : goal.returns-then-links-k
returns-then-links-k c = named_beyond _ _ _ _ _ c.from.ensures c.links.ensures.0 c.if-links-k.true

pub returns-in_err-rule : goal.returns-in_err-rule
returns-in_err-rule c = ap choice_of c.from_residual.ensures ∙ named_unruled _ _ _ (sym (ap numbered_of c.in_err-rule.was) ∙ c.numbered.ensures)

pub returns : goal.returns
returns c =
    let h = sym (ap numbered_of c.in_ok-rule.was) ∙ c.numbered.ensures in
    named_is _ _ _ _ _ c.from.ensures c.links.ensures.0 c.if-links-k.false _ h
