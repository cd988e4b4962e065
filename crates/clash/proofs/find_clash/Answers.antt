-- The first section with a clash answers.
use Rattle.std.proofs.Common.{sym, ap, ◌∙◌}
use Rattle.clash.specs.Answers.{line_of}
use Rattle.clash.proofs.Laid.{equality_first, reach-second, fields_third}
use Rattle.clash.proofs.find_clash.Goals as goal

pub returns-in-Some : goal.returns-in-Some
returns-in-Some c = sym (equality_first _ _ _ _ (sym c.equality_clash.ensures ∙ ap line_of c.in-Some.is))

pub returns-in-Some-reach_clash : goal.returns-in-Some-reach_clash
returns-in-Some-reach_clash c =
    sym (reach-second _ _ _ _ (sym c.equality_clash.ensures ∙ ap line_of c.in_default.is) (sym c.reach_clash.ensures ∙ ap line_of c.in-Some-reach_clash.is))

pub returns : goal.returns
returns c =
    c.field_clash.ensures ∙ sym (fields_third _ _ _ (sym c.equality_clash.ensures ∙ ap line_of c.in_default.is) (sym c.reach_clash.ensures ∙ ap line_of c.in_default-reach_clash.is))
