-- What saturation says of the facts about one link: each rule of 000, Fig. 3, whose conditions are held has a held alternative. This
-- is all that graph theory knows of a path.
use Prim.Native.Nat.{ℕ, ◌≤◌}
use mathlib.Core.Path.{◌≡◌}
use mathlib.Core.Logic.{◌⊎◌}
use mathlib.Core.Bool.{true}
use mathlib.Core.List.{List, Memᴰ}
use Rattle.logic.specs.Facts.{Graph}
use Rattle.logic.specs.Rules.{returns, round}

pub record Saturated (n : ℕ) (vs : List ℕ) (g : Graph) : Type 0 where
  -- the terms not replaced are some of 1 to n, the facts speak of them alone, and links are single
  pub in_range : (v : ℕ) → Memᴰ v vs → (1 ≤ v) × (v ≤ n)
  pub link_in : (a b : ℕ) → g.link a b ≡ true → Memᴰ a vs × Memᴰ b vs
  pub reach_in : (a b : ℕ) → g.reach a b ≡ true → Memᴰ a vs × Memᴰ b vs
  pub one_link_lem : (a b c : ℕ) → g.link a b ≡ true → g.link a c ≡ true → b ≡ c
  -- the eight rules
  pub reflex : (x : ℕ) → Memᴰ x vs → g.reach x x ≡ true
  pub trans1 : (x y : ℕ) → g.link x y ≡ true → g.reach x y ≡ true
  pub trans2 : (x y z : ℕ) → g.reach x y ≡ true → g.reach y z ≡ true → g.reach x z ≡ true
  pub func : (x y z : ℕ) → g.link x y ≡ true → g.reach x z ≡ true → (x ≡ z) ⊎ (g.reach y z ≡ true)
  pub cycle : (x y k : ℕ) → k ≤ n → returns n g x k x ≡ true → g.reach x y ≡ true → Memᴰ y (round n g k x)
  pub scc : (x y z : ℕ) → g.reach x y ≡ true → g.reach y x ≡ true → g.reach x z ≡ true → (x ≡ y) ⊎ (g.reach z x ≡ true)
  pub total : (x y z : ℕ) → g.reach x y ≡ true → g.reach x z ≡ true → (g.reach y z ≡ true) ⊎ (g.reach z y ≡ true)
  pub share : (x y z : ℕ) → g.link x z ≡ true → g.link y z ≡ true → g.reach x y ≡ true → g.reach y x ≡ true → x ≡ y
