-- The assignments to a link on a path, by number, as cuts have them (crates/cut_theory).
use Rattle.std.specs.Prelude.{ℕ, suc, cond, eqb}
use Rattle.path_theory.specs.Points.{Name, nil, Stores, none, store}

-- how many there are; the node that assignment k is to, and what it gives
unfoldable pub count : Stores → ℕ
count none = 0
count (store w a b) = suc (count w)

unfoldable pub assigned_at : Stores → ℕ → Name
assigned_at none k = nil
assigned_at (store w a b) k = cond (eqb k (count w)) a (assigned_at w k)

unfoldable pub value_at : Stores → ℕ → Name
value_at none k = nil
value_at (store w a b) k = cond (eqb k (count w)) b (value_at w k)

-- the first assignments of others
pub data Begins : Stores → Stores → Type 0 where
  whole : {w : Stores} → Begins w w
  longer : {w v : Stores} {a b : Name} → Begins w v → Begins w (store v a b)
