-- The rule steps of a path, whoever walks it (02, R-5).
use Rattle.std.specs.Prelude.{ℕ, zero, suc, ◌≤◌, ◌≡◌, true}
use mathlib.Core.List.{Memᴰ}
use Rattle.logic.specs.Facts.{Facts}
use Rattle.logic.specs.Rules.{Move, applies, branches}

-- "whichever applicable rule is picked each time": one applicable rule, and one of its branches
pub record Step (n : ℕ) (s s' : Facts) : Type 0 where
  pub rule_move : Move
  pub applicable : applies n s rule_move ≡ true
  pub branch : Memᴰ s' (branches n s rule_move)

-- k such steps lead from s to a path
pub data Steps (n : ℕ) (s : Facts) : ℕ → Facts → Type 0 where
  at_first : Steps n s zero s
  one_more : {k : ℕ} {s' s'' : Facts} → Steps n s k s' → Step n s' s'' → Steps n s (suc k) s''

-- no list of such steps from s is longer than m
abbrev pub AtMost : ℕ → Facts → ℕ → Type 0
AtMost n s m = (k : ℕ) (s' : Facts) → Steps n s k s' → k ≤ m
