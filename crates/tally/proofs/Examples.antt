-- Small tallies, by computation: rule lines alone are counted, and a count that would pass 4,294,967,295 leaves the tally as it was. Assumes
-- nothing.
use mathlib.Core.Path.{◌≡◌, refl}
use mathlib.Core.List.{[], ◌∷◌}
use Rattle.logic.specs.Search.{◌and◌, all}
use Rattle.logic.specs.Facts.{line}
use Rattle.tally.specs.Counting.{kind_of, rule_lines, raised_from, raised, fits, refusal_of, tallied, no_lines}

-- a join, REFLEX, a clash and SHARE; REFLEX where its count is at the limit, and where it is one below; SHARE at its limit after REFLEX
examples :
    (tallied no_lines (line 10 1 2 0 ∷ line 1 1 0 0 ∷ line 9 3 1 0 ∷ line 8 1 2 3 ∷ []) ≡ 1 ∷ 0 ∷ 0 ∷ 0 ∷ 0 ∷ 0 ∷ 0 ∷ 1 ∷ [])
    × (tallied (4294967295 ∷ 0 ∷ 0 ∷ 0 ∷ 0 ∷ 0 ∷ 0 ∷ 0 ∷ []) (line 2 1 2 0 ∷ line 1 1 0 0 ∷ []) ≡ 4294967295 ∷ 0 ∷ 0 ∷ 0 ∷ 0 ∷ 0 ∷ 0 ∷ 0 ∷ [])
    × (refusal_of (4294967295 ∷ 0 ∷ 0 ∷ 0 ∷ 0 ∷ 0 ∷ 0 ∷ 0 ∷ []) (line 2 1 2 0 ∷ line 1 1 0 0 ∷ []) ≡ 28)
    × (tallied (4294967294 ∷ 0 ∷ 0 ∷ 0 ∷ 0 ∷ 0 ∷ 0 ∷ 0 ∷ []) (line 1 1 0 0 ∷ []) ≡ 4294967295 ∷ 0 ∷ 0 ∷ 0 ∷ 0 ∷ 0 ∷ 0 ∷ 0 ∷ [])
    × (refusal_of (4294967294 ∷ 0 ∷ 0 ∷ 0 ∷ 0 ∷ 0 ∷ 0 ∷ 0 ∷ []) (line 1 1 0 0 ∷ []) ≡ 0)
    × (tallied (0 ∷ 0 ∷ 0 ∷ 0 ∷ 0 ∷ 0 ∷ 0 ∷ 4294967295 ∷ []) (line 1 1 0 0 ∷ line 8 1 2 3 ∷ []) ≡ 0 ∷ 0 ∷ 0 ∷ 0 ∷ 0 ∷ 0 ∷ 0 ∷ 4294967295 ∷ [])
unfolding ◌and◌ all kind_of rule_lines raised_from raised fits refusal_of tallied no_lines
examples = (refl, refl, refl, refl, refl, refl)
