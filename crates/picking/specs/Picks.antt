-- What a strategy that picks has to keep to, and all that it has to.
use Rattle.std.specs.Prelude.{ℕ, ◌≡◌, Option, Some, None}
use Rattle.std.proofs.Math.Option.{none}
use Rattle.logic.specs.Facts.{Facts}
use Rattle.logic.specs.Rules.{rules, choose}
use Rattle.rules.specs.declared.Move.{Move}
use Rattle.units.specs.Proposes.{Applies}

-- the rule picked applies, by whichever link and wherever that is; where none is picked, none applies
abbrev pub Picks : ℕ → Facts → Option Move → Type 0
Picks n s (Some m) = Applies n s m
Picks n s None = choose n rules s ≡ none
