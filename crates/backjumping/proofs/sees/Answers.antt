use mathlib.Core.Path.{sym, ap, ◌∙◌}
use Rattle.clash.specs.Answers.{line_of}
use Rattle.link_query.proofs.Said.{terms-said}
use Rattle.std.specs.Prelude.{Some, None}
use Rattle.backjumping.proofs.Seeing.{picks_of}
use Rattle.backjumping.proofs.sees.Goals as goal

pub returns-in-Some-pick : goal.returns-in-Some-pick
returns-in-Some-pick c = picks_of _ _ _ (sym (terms-said _ _ c.requires)) (Some c.in-Some-pick.m) c.in-Some-pick.ensures

pub returns-in-None : goal.returns-in-None
returns-in-None c = (sym c.find_clash.ensures ∙ ap line_of c.in_default.is, picks_of _ _ _ (sym (terms-said _ _ c.requires)) None c.in-None.ensures)
