-- The clash that is found is that of the path.
use Rattle.std.proofs.Common.{◌≡◌, refl, ap, ◌∙◌, Option, Some, None}
use Rattle.std.specs.Option as code
use Rattle.logic.specs.Search.{is_some}
use Rattle.clash.specs.Answers.{line_of}
use Rattle.clash.specs.declared.Clash.{Clash}
use Rattle.probing.proofs.clashes.Goals as goal

some_line : (o : Option Clash) → code.is_some o ≡ is_some (line_of o)
unfolding is_some
some_line None = refl
some_line (Some x) = refl

pub returns : goal.returns
returns c = c.is_some.ensures ∙ some_line c.find_clash.result ∙ ap is_some c.find_clash.ensures
