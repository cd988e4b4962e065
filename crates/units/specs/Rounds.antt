-- The round of a term, and what it reaches besides.
use Rattle.std.specs.Prelude.{ℕ, ◌≤◌, ◌≡◌, Bool, eqb, Option, Some, None}
use Rattle.logic.specs.Search.{any}
use Rattle.logic.specs.Facts.{Graph}
use Rattle.logic.specs.Rules.{CYCLE, triple, move, round}
use Rattle.rows.specs.Bits.{bit}
use Rattle.rules.specs.Allowed.{allowed}
use Rattle.units.specs.declared.graph.Round.{Round}

-- so many steps lead round, through these terms; with those off the round CYCLE applies
pub record Rounds (n : ℕ) (g : Graph) (x : ℕ) (r : Round) : Type 0 where
  pub steps_within : r.steps ≤ n
  pub on_round : (y : ℕ) → bit r.on y ≡ any (eqb y) (round n g r.steps x)
  pub off_round : (lives : ℕ → Bool) (y : ℕ) → y ≤ 16 → bit r.off y ≡ allowed n lives g (move 1 CYCLE (triple x y r.steps))

-- a round that is found is one
abbrev pub RoundFound : ℕ → Graph → ℕ → Option Round → Type 0
RoundFound n g x (Some r) = Rounds n g x r
RoundFound n g x None = Unit {0}
