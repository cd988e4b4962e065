-- Paths that REFLEX, TRANS1 and TRANS2 leave as they are, and order lists that begin with these rules.
use Rattle.std.specs.Prelude.{ℕ, ◌≤◌, ◌≡◌, Bool, true, false, ◌&&◌, ◌||◌, get_or, eqb, ltb}
use mathlib.Core.List.{List, ◌++◌, Memᴰ}
use Rattle.logic.specs.Facts.{Facts, live}
use Rattle.logic.specs.Rules.{Rule, REFLEX, TRANS1, TRANS2, FUNC, CYCLE, SCC, TOTAL, SHARE}

-- what the three rules would conclude of any link is held
pub record Closed (n : ℕ) (s : Facts) : Type 0 where
  pub itself_held : (i a : ℕ) → 1 ≤ i → i ≤ s.links → live n s a ≡ true → (s.graph i).reach a a ≡ true
  pub link_held : (i a b : ℕ) → (s.graph i).link a b ≡ true → (s.graph i).reach a b ≡ true
  pub onward_held : (i a b c : ℕ) → (s.graph i).reach a b ≡ true → (s.graph i).reach b c ≡ true → (s.graph i).reach a c ≡ true

-- the rules that neither branch nor join
unfoldable pub closing : Rule → Bool
closing REFLEX = true
closing TRANS1 = true
closing TRANS2 = true
closing FUNC = false
closing CYCLE = false
closing SCC = false
closing TOTAL = false
closing SHARE = false

-- an order list that has these in front of `rest`, and no other
pub record Begins (order rest : List Rule) : Type 0 where
  pub front : List Rule
  pub parts : order ≡ front ++ rest
  pub front_closing : (r : Rule) → Memᴰ r front → closing r ≡ true
  pub closing_front : (r : Rule) → closing r ≡ true → Memᴰ r front

-- three numbers are those of the three rules
abbrev pub three_of : ℕ → ℕ → ℕ → Bool
three_of a b c = ((eqb a 1 || eqb b 1) || eqb c 1) && ((eqb a 2 || eqb b 2) || eqb c 2) && ((eqb a 3 || eqb b 3) || eqb c 3) && ltb a 4 && ltb b 4 && ltb c 4

-- the first three numbers of an order list are
abbrev pub begins : List ℕ → Bool
begins order = three_of (get_or order 0 0) (get_or order 1 0) (get_or order 2 0)
