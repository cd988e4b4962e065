-- What stands in the order list behind the rules that closed the path.
use mathlib.Core.Path.{sym, ◌∙◌}
use Rattle.facts.specs.Path.{path_of}
use Rattle.walk.specs.Looks.{look_of}
use Rattle.link_query.specs.Said.{said}
use Rattle.link_query.proofs.Said.{terms-said}
use Rattle.plain_steps.proofs.Leads.{look_ended}
use Rattle.plain_steps.proofs.look_ahead.Goals as goal

pub returns-then-begins : goal.returns-then-begins
returns-then-begins c =
    let a = c.args in
    let b = sym c.begins.ensures ∙ c.if-begins.true in
    look_ended (look_of c.look.result) (said a.layout a.query.now) a.order.now a.layout.terms (path_of a.s.now)
    (sym (terms-said a.layout a.query.now c.requires.0)) c.requires.1 b (c.requires.2 b) c.look.ensures
