-- Going round a cycle of links.
use Rattle.std.specs.Prelude.{ℕ, zero, suc, cond, eqb}
use Rattle.logic.specs.Facts.{Graph}
use Rattle.logic.specs.Rules.{next}

-- after how many steps, at most k, the links from c lead to x; k where they do not lead there so soon
unfoldable pub steps_to : ℕ → Graph → ℕ → ℕ → ℕ → ℕ
steps_to n g x zero c = 0
steps_to n g x (suc k) c = cond (eqb c x) 0 (suc (steps_to n g x k (next n g c)))
