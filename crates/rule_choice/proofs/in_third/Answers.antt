-- What the row has, or nothing.
use Rattle.std.proofs.Common.{sym, ap, ◌∙◌}
use Rattle.rows.specs.Options.{found_of}
use Rattle.rule_choice.specs.Answers.{place_of}
use Rattle.rows.proofs.Finds.{find_masked}
use Rattle.rule_choice.proofs.Nested.{third_nowhere, third_at}
use Rattle.rule_choice.proofs.in_third.Goals as goal

pub returns-in_err-z : goal.returns-in_err-z
returns-in_err-z c =
    λ alive e. ap place_of c.from_residual.ensures ∙ sym (third_nowhere _ _ _ _ c.requires.3 _ _ e
    (sym (find_masked _ _ _ _ c.requires.0 c.third_row-row.ensures c.up_to.ensures) ∙ sym c.first.ensures ∙ ap found_of c.in_err-z.was))

pub returns : goal.returns
returns c =
    λ alive e. sym (third_at _ _ _ _ c.requires.3 _ _ e _
    (sym (find_masked _ _ _ _ c.requires.0 c.third_row-row.ensures c.up_to.ensures) ∙ sym c.first.ensures ∙ ap found_of c.in_ok-z.was))
