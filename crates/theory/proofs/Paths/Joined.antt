-- What joining leaves of the facts, step by step: the pairs that it hands back play no part in them.
use Prim.Native.Nat.{ℕ, suc, min, max}
use mathlib.Core.Path.{◌≡◌, refl}
use mathlib.Core.Bool.{Bool, true, false, cond}
use mathlib.Core.List.{List, ◌∷◌}
use mathlib.Core.Option.{Option, none, some, Option-elim}
use lib.Dec.{eqb}
use Rattle.logic.specs.Query.{Literal}
use Rattle.logic.specs.Facts.{Facts, Joined, unjoined, join_pair, and_then, replace, doubled, settle, join, join_each}

pub settle_step : (n k : ℕ) (s : Facts) → (settle n (suc k) s).facts ≡ Option-elim (doubled n s) s (λ ab. (settle n k (replace ab.0 ab.1 s)).facts)
unfolding settle unjoined join_pair and_then Option-elim
settle_step n k s = go (doubled n s)
  where
    go : (o : Option (ℕ × ℕ)) → (Option-elim o (unjoined s) (λ ab. and_then (join_pair ab s) (settle n k))).facts ≡ Option-elim o s (λ ab. (settle n k (replace ab.0 ab.1 s)).facts)
    go none = refl
    go (some ab) = refl

pub join-facts : (n a b : ℕ) (s : Facts) → (join n a b s).facts ≡ cond (eqb a b) s (settle n n (replace (min a b) (max a b) s)).facts
unfolding join unjoined join_pair and_then
join-facts n a b s = go (eqb a b)
  where
    go : (c : Bool) → (cond c (unjoined s) (and_then (join_pair (min a b, max a b) s) (settle n n))).facts ≡ cond c s (settle n n (replace (min a b) (max a b) s)).facts
    go true = refl
    go false = refl

pub join_each_step : (n : ℕ) (l : Literal) (ls : List Literal) (s : Facts) →
    (join_each n (l ∷ ls) s).facts ≡ (join_each n ls (cond l.plain (join n (s.rep l.left) (s.rep l.right) s).facts s)).facts
unfolding join_each and_then unjoined
join_each_step n l ls s = go l.plain (join n (s.rep l.left) (s.rep l.right) s)
  where
    go : (b : Bool) (j : Joined) → (and_then (cond b j (unjoined s)) (join_each n ls)).facts ≡ (join_each n ls (cond b j.facts s)).facts
    go true j = refl
    go false j = refl
