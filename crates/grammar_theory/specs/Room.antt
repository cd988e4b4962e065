-- How high the machine's stack gets: a bound that is linear in the number of tokens, from claimed sizes of the rules.
use Rattle.std.specs.Prelude.{ℕ, zero, suc, ◌+◌, ◌*◌, ◌≤◌, max, ◌≡◌, Bool, true, leb, get_or, length}
use mathlib.Core.List.{List, [], ◌∷◌, ◌++◌, tail}
use Rattle.logic.specs.Search.{◌and◌, all}
use Rattle.grammar_theory.specs.Grammar.{token, rule, action, Symbols, Kinds, Grammar}
use Rattle.grammar_theory.specs.Machine.{Table, next, Move, finish, read, perform, expand, refuse, move}
use Rattle.grammar_theory.specs.LL1.{Facts, vanish, highest, ◌implies◌, each, ll1}

-- For each rule: for how many symbols more than itself it counts on the stack; how many more those in its place can come to before a token is read,
-- which is at most `most`.
pub record Sizes : Type 0 where
  pub spaces : List ℕ
  pub growths : List ℕ
  pub most : ℕ

module _ (z : Sizes) where
  unfoldable pub space : ℕ → ℕ
  space r = suc (get_or z.spaces r 0)

  unfoldable pub growth : ℕ → ℕ
  growth r = get_or z.growths r 0

  unfoldable pub space_of : Symbols → ℕ
  space_of [] = 0
  space_of (token j ∷ ss) = suc (space_of ss)
  space_of (rule r ∷ ss) = space r + space_of ss
  space_of (action a ∷ ss) = suc (space_of ss)

  module _ (c : Facts) where
    unfoldable pub growth_of : Symbols → ℕ
    growth_of ss = highest c growth ss

    -- an alternative of rule r
    unfoldable pub fits_size : ℕ → Symbols → Bool
    fits_size r ss =
        (vanish c ss implies (leb (space_of ss) (space r) and leb (growth_of ss) (growth r))) and
        leb (space_of ss + growth_of ss) (space r + growth r)

    -- the sizes are right
    unfoldable pub sized : Grammar → Bool
    sized g = all (λ n. leb n z.most) z.growths and each (λ r. all (fits_size r)) 0 g

  -- how high the stack gets at most, on a text of n tokens that is derived from rule r
  unfoldable pub room : ℕ → ℕ → ℕ
  room r n = space r + growth r + n * z.most

-- how high it gets behind a move; `go` goes on from where that leads
unfoldable pub peak_behind : (Symbols → Kinds → ℕ) → Symbols → Kinds → Move → ℕ
peak_behind go ss left finish = 0
peak_behind go ss left read = go (tail ss) (tail left)
peak_behind go ss left (perform a) = go (tail ss) left
peak_behind go ss left (expand alternative) = go (alternative ++ tail ss) left
peak_behind go ss left refuse = 0

-- how high it gets in at most n moves
unfoldable pub peak : Grammar → Table → ℕ → Symbols → Kinds → ℕ
peak g t zero ss left = length ss
peak g t (suc n) ss left = max (length ss) (peak_behind (peak g t n) ss left (move g t ss (next left)))

-- every grammar that passes the test, with sizes that are right: the stack is never higher than that, however many moves are made
unfoldable pub PeakBounded : Type 0
PeakBounded = (g : Grammar) (t : Table) (c : Facts) (z : Sizes) (r : ℕ) → ll1 g t c r ≡ true → sized z c g ≡ true →
    (n : ℕ) (ks : Kinds) → peak g t n (rule r ∷ []) ks ≤ room z r (length ks)
