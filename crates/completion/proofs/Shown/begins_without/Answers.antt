-- Each return under the test.
use Rattle.std.proofs.Common.{not, sym, ap, ◌∙◌}
use Rattle.rows.proofs.Selections.{and_failed, and-rest}
use Rattle.completion.proofs.Shown.begins_without.Goals as goal

pub returns-then-not-has : goal.returns-then-not-has
returns-then-not-has c = and_failed _ (sym c.has.ensures ∙ c.if-not-has.true)

pub returns : goal.returns
returns c = ap not c.on_path.ensures ∙ and-rest _ (sym c.has.ensures ∙ c.if-not-has.false)
