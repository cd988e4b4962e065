-- What a search that proposes a place has to keep to.
use Rattle.std.specs.Prelude.{ℕ, ◌≤◌, ◌≡◌, true, Option, Some, None}
use Rattle.logic.specs.Facts.{Facts}
use Rattle.logic.specs.Rules.{applies}
use Rattle.rows.specs.Bits.{bit}
use Rattle.rows.specs.declared.Term.{Term}
use Rattle.rules.specs.Answers.{move_as}
use Rattle.rules.specs.declared.Move.{Move}
use Rattle.units.specs.declared.graph.Graph.{Graph}
use Rattle.units.specs.Graphs.{GraphOf}

-- the rule applies by the link at the triple, whose numbers are in range
abbrev pub Applies : ℕ → Facts → Move → Type 0
Applies n s m = (applies n s (move_as m) ≡ true) × (m.x.0 ≤ 16) × (m.y.0 ≤ 16) × (m.z.0 ≤ 16)

-- the rule proposed applies at the place proposed; where none is, others go on, and no path is called saturated for that
abbrev pub Proposes : ℕ → Facts → Option Move → Type 0
Proposes n s (Some m) = Applies n s m
Proposes n s None = Unit {0}

-- the same of a search that reads the rows of a link alone: at every path whose rows by it are these
abbrev pub ProposesIn : ℕ → Graph → Option Move → Type 0
ProposesIn n g p = (s : Facts) → GraphOf s g → Proposes n s p

-- a number that is found is one of a row
abbrev pub FoundIn : ℕ → Option Term → Type 0
FoundIn row (Some t) = (t.0 ≤ 16) × (bit row t.0 ≡ true)
FoundIn row None = Unit {0}
