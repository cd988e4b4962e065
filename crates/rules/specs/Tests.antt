-- Each rule's test in two halves: what it asks of the first two numbers, and what it asks of the third.
use Rattle.std.specs.Prelude.{ℕ, Bool, true, false, not, eqb}
use Rattle.std.proofs.Math.Option.{Option-elim}
use Rattle.logic.specs.Search.{◌and◌}
use Rattle.logic.specs.Facts.{Graph}
use Rattle.logic.specs.Rules.{Rule, REFLEX, TRANS1, TRANS2, FUNC, CYCLE, SCC, TOTAL, SHARE, rule_of}

-- any rule but CYCLE: its third number is looked for among all numbers
unfoldable pub is_not_cycle : Rule → Bool
is_not_cycle REFLEX = true
is_not_cycle TRANS1 = true
is_not_cycle TRANS2 = true
is_not_cycle FUNC = true
is_not_cycle CYCLE = false
is_not_cycle SCC = true
is_not_cycle TOTAL = true
is_not_cycle SHARE = true

-- a rule whose test reads what reaches a term, beside what a term reaches
unfoldable pub two_way : Rule → Bool
two_way REFLEX = false
two_way TRANS1 = false
two_way TRANS2 = false
two_way FUNC = false
two_way CYCLE = false
two_way SCC = true
two_way TOTAL = true
two_way SHARE = true

unfoldable pub looks_back : ℕ → Bool
looks_back k = Option-elim (rule_of k) false two_way

module _ (alive : ℕ → Bool) (g : Graph) (x y : ℕ) where
  unfoldable pub pair_test : Rule → Bool
  pair_test REFLEX = alive x and not (g.reach x x) and eqb y 0
  pair_test TRANS1 = g.link x y and not (g.reach x y)
  pair_test TRANS2 = g.reach x y
  pair_test FUNC = g.link x y
  pair_test CYCLE = g.reach x y
  pair_test SCC = g.reach x y and g.reach y x and not (eqb x y)
  pair_test TOTAL = g.reach x y
  pair_test SHARE = g.reach x y and g.reach y x and not (eqb x y)

module _ (g : Graph) (x y z : ℕ) where
  unfoldable pub third_test : Rule → Bool
  third_test REFLEX = eqb z 0
  third_test TRANS1 = eqb z 0
  third_test TRANS2 = g.reach y z and not (g.reach x z)
  third_test FUNC = g.reach x z and not (eqb x z) and not (g.reach y z)
  third_test CYCLE = false
  third_test SCC = g.reach x z and not (g.reach z x)
  third_test TOTAL = g.reach x z and not (g.reach y z) and not (g.reach z y)
  third_test SHARE = g.link x z and g.link y z
