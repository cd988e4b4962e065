-- Links of four nodes, node 1 leading to itself and each other one to the node before it; three assignments, the first two to node 3, the third to node 4.
use Rattle.std.specs.Prelude.{ℕ, ◌-◌, ◌≡◌, Bool, true, false, cond, List, [], ◌∷◌, map, ltb, get_or}
use Rattle.logic.specs.Search.{from}
use Rattle.cut_theory.specs.Versions.{version, cut, target, active}

unfoldable pub before : ℕ → ℕ
before v = cond (ltb v 2) v (v - 1)

-- the nodes that are assigned, and what they are given
unfoldable pub nodes : ℕ → ℕ
nodes i = get_or (3 ∷ 3 ∷ 4 ∷ []) i 0

unfoldable pub values : ℕ → ℕ
values i = get_or (4 ∷ 1 ∷ 4 ∷ []) i 0

-- the first j assignments are done: where each node leads, which cuts are active, where they jump to
unfoldable pub leads : ℕ → List ℕ
leads j = map (version before nodes values j) (from 4 1)

unfoldable pub actives : ℕ → List Bool
actives j = map (active nodes j) (from 3 0)

unfoldable pub targets : ℕ → List ℕ
targets j = map (target before nodes values j) (from 3 0)

pub record ExamplesHold : Type 0 where
  pub at_first : leads 0 ≡ 1 ∷ 1 ∷ 2 ∷ 3 ∷ []
  pub after_one : leads 1 ≡ 1 ∷ 1 ∷ 4 ∷ 3 ∷ []
  -- "only the last assignment counts"
  pub after_two : leads 2 ≡ 1 ∷ 1 ∷ 1 ∷ 3 ∷ []
  pub after_three : leads 3 ≡ 1 ∷ 1 ∷ 1 ∷ 4 ∷ []
  -- cut at all three: nodes 3 and 4 lead to themselves
  pub cut_links : map (cut before nodes 3) (from 4 1) ≡ 1 ∷ 1 ∷ 3 ∷ 4 ∷ []
  -- "what stood there at first counts once", at the first cut of the node; what is overwritten does not count
  pub active_at_first : actives 0 ≡ true ∷ false ∷ true ∷ []
  pub active_after_one : actives 1 ≡ true ∷ false ∷ true ∷ []
  pub active_after_two : actives 2 ≡ false ∷ true ∷ true ∷ []
  pub active_after_three : actives 3 ≡ false ∷ true ∷ true ∷ []
  -- a jump leads to what was assigned, or to what stood there
  pub targets_at_first : targets 0 ≡ 2 ∷ 2 ∷ 3 ∷ []
  pub targets_after_two : targets 2 ≡ 4 ∷ 1 ∷ 3 ∷ []
