-- The forms of queries that the calls take.
use Rattle.std.specs.Prelude.{Bool, true, false}
use Rattle.logic.specs.Calls.{CallForm, one_link_form}
use Rattle.logic.specs.ThreeLinks.{three_link_form}

-- the form of queries that a call takes: with three links (02, R-11), or that of 01
abbrev pub form_of : Bool → CallForm
form_of true = three_link_form
form_of false = one_link_form
