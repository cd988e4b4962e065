-- Nogoods: facts that no finite heap which meets the query has. They are held as a path of their own, which need not be one that a walk can
-- reach.
use Rattle.std.specs.Prelude.{ℕ, ◌<◌, ◌≡◌}
use Rattle.logic.specs.Query.{Query}
use Rattle.logic.specs.Heap.{Heap, Meets, value}
use Rattle.logic.specs.Facts.{Graph, Facts}
use Rattle.logic.specs.Rules.{Rule, Fact}
use Rattle.alternatives.specs.Alternatives.{count_of, alternative_at}
use Rattle.theory.proofs.Soundness.Truth.{Holds, True}

-- the facts are true of the heap; 0, which is no term, is not replaced
pub record Held (q : Query) (h : Heap) (s : Facts) : Type 0 where
  pub holds : Holds h.link (value h q.entries) s
  pub zero_kept : s.rep 0 ≡ 0

-- no heap that meets the query has these facts
abbrev pub Nogood : Query → Facts → Type 0
Nogood q s = (h : Heap) → Meets h q → Held q h s → ⊥

-- none has these facts and this one
abbrev pub Excludes : Query → Facts → Fact → Type 0
Excludes q s c = (h : Heap) → Meets h q → Held q h s → True h.link (value h q.entries) c → ⊥

-- nor any alternative of a rule, one by one, over this graph
abbrev pub ExcludesAll : Query → Facts → ℕ → ℕ → Graph → Rule → ℕ → ℕ → ℕ → Type 0
ExcludesAll q s k n g r x y z = (i : ℕ) → i < count_of r z → Excludes q s (alternative_at k n g r x y z i)
