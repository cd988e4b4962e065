-- What rules read of a path.
use Rattle.std.specs.Prelude.{◌≡◌, true}
use Rattle.logic.specs.Rules.{Rule}
use Rattle.rows.specs.Square.{Turned}
use Rattle.rules.specs.declared.View.{View}
use Rattle.rules.specs.Tests.{two_way}

-- reachability is turned round where the rule reads it so
abbrev pub Suits : View → Rule → Type 0
Suits v r = two_way r ≡ true → Turned v.back v.reach
