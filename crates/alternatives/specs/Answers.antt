-- The code's facts as the definitions'.
use Rattle.std.specs.Prelude.{ℕ, ◌≤◌}
use Rattle.logic.specs.Rules.{Fact, equal, reaches}
use Rattle.alternatives.specs.declared.Fact as code
use Rattle.alternatives.specs.declared.Fact.TheVariants as fact

-- what it says of link k
abbrev pub fact_of : ℕ → code.Fact → Fact
fact_of k (fact.Equal a b) = equal a.0 b.0
fact_of k (fact.Reaches a b) = reaches k a.0 b.0

-- its terms are at most 16
abbrev pub InRange : code.Fact → Type 0
InRange (fact.Equal a b) = (a.0 ≤ 16) × (b.0 ≤ 16)
InRange (fact.Reaches a b) = (a.0 ≤ 16) × (b.0 ≤ 16)
