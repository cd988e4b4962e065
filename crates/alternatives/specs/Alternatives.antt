-- The alternatives of a rule, one by one.
use Rattle.std.specs.Prelude.{ℕ, cond, eqb}
use Rattle.logic.specs.Heap.{iterate}
use Rattle.logic.specs.Facts.{Graph}
use Rattle.logic.specs.Rules.{Rule, REFLEX, TRANS1, TRANS2, FUNC, CYCLE, SCC, TOTAL, SHARE, Fact, equal, reaches, next}

-- how many there are, the third number of the triple being z
abbrev pub count_of : Rule → ℕ → ℕ
count_of REFLEX z = 1
count_of TRANS1 z = 1
count_of TRANS2 z = 1
count_of FUNC z = 2
count_of CYCLE z = z
count_of SCC z = 2
count_of TOTAL z = 2
count_of SHARE z = 1

-- the one at i, from 0, by link k
abbrev pub alternative_at : ℕ → ℕ → Graph → Rule → ℕ → ℕ → ℕ → ℕ → Fact
alternative_at k n g REFLEX x y z i = reaches k x x
alternative_at k n g TRANS1 x y z i = reaches k x y
alternative_at k n g TRANS2 x y z i = reaches k x z
alternative_at k n g FUNC x y z i = cond (eqb i 0) (equal x z) (reaches k y z)
alternative_at k n g CYCLE x y z i = equal y (iterate (next n g) i x)
alternative_at k n g SCC x y z i = cond (eqb i 0) (equal x y) (reaches k z x)
alternative_at k n g TOTAL x y z i = cond (eqb i 0) (reaches k y z) (reaches k z y)
alternative_at k n g SHARE x y z i = equal x y
