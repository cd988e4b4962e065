-- What is seen is what the searches find, the clash first.
use Rattle.std.proofs.Common.{sym, ap}
use Rattle.link_query.proofs.Said.{terms-said}
use Rattle.clash.specs.Answers.{line_of}
use Rattle.rules.specs.Answers.{choice_of}
use Rattle.walk.proofs.Looks.{seen-clashing, seen-applying, seen-saturated}
use Rattle.walk.proofs.look.Goals as goal

pub returns-in-Some : goal.returns-in-Some
returns-in-Some c = seen-clashing _ _ _ _ (sym (terms-said _ _ c.requires)) _ c.find_clash.ensures _ (ap line_of c.in-Some.is)

pub returns-in-Some-choose : goal.returns-in-Some-choose
returns-in-Some-choose c =
    seen-applying _ _ _ _ (sym (terms-said _ _ c.requires)) _ c.find_clash.ensures _ (ap line_of c.in_default.is) c.choose.ensures _
    (ap choice_of c.in-Some-choose.is)

pub returns-in-None : goal.returns-in-None
returns-in-None c =
    seen-saturated _ _ _ _ (sym (terms-said _ _ c.requires)) _ c.find_clash.ensures _ (ap line_of c.in_default.is) c.choose.ensures
    (ap choice_of c.in-None.is)
