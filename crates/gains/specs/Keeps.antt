-- The best place so far.
use Rattle.std.specs.Prelude.{ℕ, cond, ltb, Option, Some, None}
use Rattle.logic.specs.Facts.{Facts}
use Rattle.rules.specs.declared.Move.{Move}
use Rattle.units.specs.declared.graph.Graph.{Graph}
use Rattle.units.specs.Graphs.{GraphOf}
use Rattle.units.specs.Proposes.{Applies}
use Rattle.gains.specs.declared.Best.{Best}

-- a place that is offered is taken where there is none, or where its score is higher
unfoldable pub better : Option Best → ℕ → Move → Option Best
better None score place = Some (record { score = score; place = place })
better (Some best) score place = cond (ltb best.score score) (Some (record { score = score; place = place })) (Some best)

-- the best place is a proposal, where there is one
abbrev pub ProposesBest : ℕ → Facts → Option Best → Type 0
ProposesBest n s (Some best) = Applies n s best.place
ProposesBest n s None = Unit {0}

-- at every path whose rows by a link are these: where what was best before is a proposal, what is best then is one
abbrev pub Keeps : ℕ → Graph → Option Best → Option Best → Type 0
Keeps n g before r = (s : Facts) → GraphOf s g → ProposesBest n s before → ProposesBest n s r
