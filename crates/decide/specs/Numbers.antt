-- Which strategy a number names, for callers that have a number.
use Rattle.std.specs.Prelude.{ℕ, ◌≡◌, cond, nat_eq, List, [], ◌∷◌, map, refl}
use Rattle.picking.specs.declared.Strategy.TheVariants as picking
use Rattle.decide.specs.declared.Strategy.{Strategy}
use Rattle.decide.specs.declared.Strategy.TheVariants as strategy

-- each number names one: 3 and every number above 4 the same
abbrev pub strategy_of : ℕ → Strategy
strategy_of k =
    cond (nat_eq k 0) (strategy.Picking picking.Gains)
    (cond (nat_eq k 1) (strategy.Picking picking.TotalFirst)
    (cond (nat_eq k 2) (strategy.Picking picking.Probing)
    (cond (nat_eq k 4) strategy.Backjumping (strategy.Picking picking.ProbingGains))))

-- the first six
pub strategies :
    map strategy_of (0 ∷ 1 ∷ 2 ∷ 3 ∷ 4 ∷ 5 ∷ [])
    ≡ strategy.Picking picking.Gains
    ∷ strategy.Picking picking.TotalFirst
    ∷ strategy.Picking picking.Probing
    ∷ strategy.Picking picking.ProbingGains
    ∷ strategy.Backjumping
    ∷ strategy.Picking picking.ProbingGains
    ∷ []
strategies = refl
