-- What the search with backjumping says of a path.
use Rattle.std.specs.Prelude.{ℕ, ◌≤◌, ◌≡◌, true, Option, Some, None, IfSome}
use Rattle.std.proofs.Math.Option.{none, some}
use Rattle.logic.specs.Query.{Query, term_count}
use Rattle.logic.specs.Facts.{Facts, Line, clash}
use Rattle.logic.specs.Rules.{applies, rules, choose}
use Rattle.logic.specs.Decision.{HasHeap, NoHeap}
use Rattle.rules.specs.Answers.{move_as}
use Rattle.facts.specs.Path.{path_of}
use Rattle.facts.specs.declared.Facts as code
use Rattle.covering.specs.Covers.{Covers}
use Rattle.nogoods.specs.Nogoods.{Nogood}
use Rattle.walk.specs.declared.Seen.{Seen}
use Rattle.walk.specs.declared.Seen.TheVariants as seen
use Rattle.backjumping.specs.declared.Answer.{Answer}
use Rattle.backjumping.specs.declared.Answer.TheVariants as answer

-- what is seen at a path: a clash; a rule that applies, whichever; or that there is neither. Which clash it is, and what it is worth, is tried later.
abbrev pub Sees : Query → Facts → Seen → Type 0
Sees q s (seen.Clashing c) = (l : Line) × (clash q s ≡ some l)
Sees q s (seen.Applying m) = (applies (term_count q) s (move_as m) ≡ true) × (m.x.0 ≤ 16) × (m.y.0 ≤ 16) × (m.z.0 ≤ 16)
Sees q s seen.Saturated = (clash q s ≡ none) × (choose (term_count q) rules s ≡ none)

-- "refuted": a nogood that the path holds, if what was tried is one; never "open"
abbrev pub Carries : Facts → Option code.Facts → Answer → Type 0
Carries s tried (answer.Refuted f) = (q : Query) → IfSome tried (λ d. Nogood q (path_of d)) → Nogood q (path_of f) × Covers s (path_of f)
Carries s tried (answer.Open f) = ⊥
Carries s tried answer.Unknown = Unit {0}

-- "refuted": a nogood that the path holds; "open": the path has a heap, and so has the one handed back
abbrev pub Finds : Query → Facts → Answer → Type 0
Finds q s (answer.Refuted f) = Nogood q (path_of f) × Covers s (path_of f)
Finds q s (answer.Open f) = HasHeap q s × HasHeap q (path_of f)
Finds q s answer.Unknown = Unit {0}

-- a path handed back only if some finite heap meets the query and the facts of the path, and then that one has a heap too; none only if no finite heap does
abbrev pub Tells : Query → Facts → Option code.Facts → Type 0
Tells q s (Some f) = HasHeap q s × HasHeap q (path_of f)
Tells q s None = NoHeap q s
