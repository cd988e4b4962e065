-- What a literal makes of a path keeps its terms within the arrays.
use Prim.Native.Nat.{ℕ, ◌≤◌, min, max}
use native.Mathlib.Omega.{arith}
use mathlib.Core.Bool.{Bool, true, false, cond}
use lib.Dec.{eqb}
use Rattle.logic.specs.Query.{Literal, Query}
use Rattle.logic.specs.Facts.{Facts, Joined, links_of, replace, unjoined, and_then, settle, join}
use Rattle.theory.proofs.Paths.Joined.{join-facts}
use Rattle.theory.proofs.Paths.Settle.{settle_keeps}
use Rattle.doubled.proofs.Twos.{doubled_below}
use Rattle.plain_literals.specs.Taken.{join_one, Bounded, Terms}

replaced : (lo hi : ℕ) (s : Facts) → lo ≤ 16 → Bounded s → Bounded (replace lo hi s)
unfolding replace
replaced lo hi s h b = record { within = λ t k. go t k (eqb (s.rep t) hi) }
  where
    go : (t : ℕ) → t ≤ 16 → (x : Bool) → cond x lo (s.rep t) ≤ 16
    go t k true = h
    go t k false = b.within t k

pub linked_bounded : (q : Query) → Bounded (links_of q)
unfolding links_of
linked_bounded q = record { within = λ t h. h }

pub settled : (n : ℕ) → n ≤ 16 → (k : ℕ) (s : Facts) → Bounded s → Bounded (settle n k s).facts
settled n h k s b =
    settle_keeps n Bounded
    (λ s ab b e. let r = doubled_below n s ab.0 ab.1 e in replaced ab.0 ab.1 s (omega arith) b)
    k s b

joined : (n a b : ℕ) (s : Facts) → n ≤ 16 → a ≤ 16 → b ≤ 16 → Bounded s → Bounded (join n a b s).facts
joined n a b s h k l w = rw (join-facts n a b s) (go (eqb a b))
  where
    go : (c : Bool) → Bounded (cond c s (settle n n (replace (min a b) (max a b) s)).facts)
    go true = w
    go false = settled n h n _ (replaced (min a b) (max a b) s (omega arith) w)

join_bounded : (n : ℕ) (l : Literal) (s : Facts) → n ≤ 16 → Terms l → Bounded s → Bounded (join_one n l s).facts
unfolding join_one unjoined
join_bounded n l s h t b = go l.plain
  where
    go : (x : Bool) → Bounded (cond x (join n (s.rep l.left) (s.rep l.right) s) (unjoined s)).facts
    go true = joined n _ _ s h (b.within l.left t.left_within) (b.within l.right t.right_within) b
    go false = b

pub behind_bounded : (n : ℕ) (l : Literal) (j : Joined) → n ≤ 16 → Terms l → Bounded j.facts → Bounded (and_then j (join_one n l)).facts
unfolding and_then
behind_bounded n l j h t b = join_bounded n l j.facts h t b
