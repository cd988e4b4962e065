-- Joins one after the other, as loops and calls meet them, and how many pairs they make.
use Prim.Native.Nat.{ℕ, zero, suc, ◌+◌, ◌-◌, ◌≤◌, ◌<◌, min, max}
use native.Mathlib.Omega.{arith}
use native.Mathlib.Nat.{zero-add}
use native.Mathlib.Numerals.{add-one}
use mathlib.Core.Path.{◌≡◌, refl, sym, ap, ap₂, ◌∙◌, subst}
use mathlib.Core.Bool.{Bool, true, false, cond}
use mathlib.Core.List.{List, [], ◌∷◌, ◌++◌, map, append-nil, append_assoc, map-append}
use mathlib.Core.Option.{Option, none, some, Option-elim}
use lib.ListN.{length, set, length-append, length-map}
use lib.Seq.{get_or-set_same, get_or-set_other}
use lib.Dec.{eqb}
use borrow.Author.Tests.{eq-eqb, ne_eqb}
use Rattle.logic.specs.Facts.{Facts, Joined, unjoined, join_pair, and_then, replace, doubled, settle, join}
use Rattle.logic.specs.Search.{from}
use Rattle.theory.proofs.Basics.Count.{length_from}
use Rattle.joins.specs.Pairs.{pair_at, pairs_in, pairs_of, Fits}
use Rattle.joins.specs.declared.Pairs.{Pairs}

-- what follows joins is done to their facts
pub and_then_at : (j : Joined) (f g : Facts → Joined) → f j.facts ≡ g j.facts → and_then j f ≡ and_then j g
unfolding and_then
and_then_at j f g e = ap (λ (i : Joined). record { pairs = j.pairs ++ i.pairs; facts = i.facts }) e

-- nothing joined behind
pub and_then-unjoined : (j : Joined) → and_then j unjoined ≡ j
unfolding and_then unjoined
and_then-unjoined j = ap (λ (ps : List (ℕ × ℕ)). record { pairs = ps; facts = j.facts }) (append-nil j.pairs)

pub and_then-and_then : (j : Joined) (f g : Facts → Joined) → and_then j (λ s. and_then (f s) g) ≡ and_then (and_then j f) g
unfolding and_then
and_then-and_then j f g =
    ap (λ (ps : List (ℕ × ℕ)). record { pairs = ps; facts = (g (f j.facts).facts).facts })
    (sym (append_assoc j.pairs (f j.facts).pairs (g (f j.facts).facts).pairs))

-- what fits with more behind it fits
pub fits_left : (j : Joined) (f : Facts → Joined) → Fits (and_then j f) → Fits j
unfolding and_then
fits_left j f h = omega (arith, length-append j.pairs (f j.facts).pairs)

-- one pair more behind joins, and the facts replaced by it
abbrev pub pair_behind : Joined → ℕ → ℕ → Joined
pair_behind j a b = record { pairs = j.pairs ++ ((a, b) ∷ []); facts = replace a b j.facts }

pub fits_pair : (j : Joined) (a b : ℕ) (f : Facts → Joined) → Fits (and_then (pair_behind j a b) f) → length j.pairs < 17
fits_pair j a b f h = let l = fits_left (pair_behind j a b) f h in omega (arith, length-append j.pairs ((a, b) ∷ []))

pair_behind_lem : (j : Joined) (a b : ℕ) (f : Facts → Joined) → and_then j (λ s. and_then (join_pair (a, b) s) f) ≡ and_then (pair_behind j a b) f
unfolding join_pair and_then
pair_behind_lem j a b f = and_then-and_then j (join_pair (a, b)) f

-- the pair and the facts as a call makes them
pub made_behind : (j : Joined) (a b : ℕ) (f : Facts → Joined) (ps : List (ℕ × ℕ)) (s : Facts) → ps ≡ j.pairs ++ ((a, b) ∷ []) →
    s ≡ replace a b j.facts → and_then (pair_behind j a b) f ≡ and_then (record { pairs = ps; facts = s }) f
made_behind j a b f ps s e h = ap₂ (λ (ps : List (ℕ × ℕ)) (s : Facts). and_then (record { pairs = ps; facts = s }) f) (sym e) (sym h)

-- Behind joins: what is left to settle, and a further join
module _ (n : ℕ) (j : Joined) where
  pub settle-none : (k : ℕ) → k ≤ 0 → and_then j (settle n k) ≡ j
  unfolding settle
  settle-none zero h = and_then-unjoined j
  settle-none (suc k) h = absurd (omega arith)

  pub settle_done : (k : ℕ) → doubled n j.facts ≡ none → and_then j (settle n k) ≡ j
  unfolding settle Option-elim
  settle_done zero e = and_then-unjoined j
  settle_done (suc k) e = and_then_at j (settle n (suc k)) unjoined (rw e) ∙ and_then-unjoined j

  pub settle_turn : (k next a b : ℕ) → k ≡ next + 1 → doubled n j.facts ≡ some (a, b) → and_then j (settle n k) ≡ and_then (pair_behind j a b) (settle n next)
  unfolding settle Option-elim
  settle_turn zero next a b h e = absurd (omega arith)
  settle_turn (suc k) next a b h e =
      and_then_at j (settle n (suc k)) (λ s. and_then (join_pair (a, b) s) (settle n k)) (rw e) ∙ pair_behind_lem j a b (settle n k)
      ∙ ap (λ (i : ℕ). and_then (pair_behind j a b) (settle n i)) left
    where
      left : k ≡ next
      left = omega arith

  -- there is room for the pair of such a turn
  pub fits_turn : (k a b : ℕ) → 0 < k → doubled n j.facts ≡ some (a, b) → (whole : Joined) → whole ≡ and_then j (settle n k) → Fits whole → length j.pairs < 17
  fits_turn k a b h e whole w f = fits_pair j a b (settle n (k - 1)) (subst Fits (w ∙ settle_turn k (k - 1) a b (omega arith) e) f)

  pub join_same : (a b : ℕ) → a ≡ b → and_then j (join n a b) ≡ j
  unfolding join
  join_same a b e = and_then_at j (join n a b) unjoined (rw (eq-eqb a b e)) ∙ and_then-unjoined j

  pub join-pair : (a b lo hi : ℕ) → (a ≡ b → ⊥) → lo ≡ min a b → hi ≡ max a b → and_then j (join n a b) ≡ and_then (pair_behind j lo hi) (settle n n)
  unfolding join
  join-pair a b lo hi d e f = and_then_at j (join n a b) (λ s. and_then (join_pair (lo, hi) s) (settle n n)) (rw (ne_eqb a b d, e, f)) ∙ pair_behind_lem j lo hi (settle n n)

  -- there is room for the pair
  pub fits_join : (a b lo hi : ℕ) → (a ≡ b → ⊥) → lo ≡ min a b → hi ≡ max a b → Fits (and_then j (join n a b)) → length j.pairs < 17
  fits_join a b lo hi d e f h = fits_pair j lo hi (settle n n) (subst Fits (join-pair a b lo hi d e f) h)

  -- the same join, of the pair and the facts as a call makes them
  pub join_made : (a b lo hi : ℕ) → (a ≡ b → ⊥) → lo ≡ min a b → hi ≡ max a b → (ps : List (ℕ × ℕ)) (s : Facts) → ps ≡ j.pairs ++ ((lo, hi) ∷ []) →
      s ≡ replace lo hi j.facts → and_then j (join n a b) ≡ and_then (record { pairs = ps; facts = s }) (settle n n)
  join_made a b lo hi d e f ps s g h = join-pair a b lo hi d e f ∙ made_behind j lo hi (settle n n) ps s g h

-- settling k times makes no more than k pairs, and a join one more
pub settle-pairs : (n k : ℕ) (s : Facts) → length (settle n k s).pairs ≤ k
unfolding settle unjoined join_pair and_then Option-elim
settle-pairs n zero s = omega arith
settle-pairs n (suc k) s = go (doubled n s) (λ ab. settle-pairs n k (replace ab.0 ab.1 s))
  where
    go : (o : Option (ℕ × ℕ)) → ((ab : ℕ × ℕ) → length (settle n k (replace ab.0 ab.1 s)).pairs ≤ k) →
        length (Option-elim o (unjoined s) (λ ab. and_then (join_pair ab s) (settle n k))).pairs ≤ suc k
    go none ih = omega arith
    go (some ab) ih = omega (arith, ih ab)

pub join-pairs : (n a b : ℕ) (s : Facts) → length (join n a b s).pairs ≤ n + 1
unfolding join unjoined join_pair and_then
join-pairs n a b s = go (eqb a b)
  where
    go : (c : Bool) → length (cond c (unjoined s) (and_then (join_pair (min a b, max a b) s) (settle n n))).pairs ≤ n + 1
    go true = omega arith
    go false = omega (arith, settle-pairs n n (replace (min a b) (max a b) s))

-- the code's pairs: how many, and one more
pub count-pairs : (entries : List (ℕ × ℕ)) (count : ℕ) → length (pairs_in entries count) ≡ count
count-pairs entries count = length-map (from count 0) (pair_at entries) ∙ length_from count 0

pub pairs-count : (p : Pairs) → length (pairs_of p) ≡ p.count
unfolding pairs_of
pairs-count p = count-pairs p.entries p.count

-- no pair stands before
pub none_before : (s : Facts) (f : Facts → Joined) → and_then (unjoined s) f ≡ f s
unfolding unjoined and_then
none_before s f = refl

-- numbers up to c, and c behind them
from_more : (c k : ℕ) → from (suc c) k ≡ from c k ++ ((k + c) ∷ [])
unfolding from
from_more zero k = ap (λ (i : ℕ). i ∷ []) (omega arith)
from_more (suc c) k =
    ap (λ (l : List ℕ). k ∷ l) (from_more c (suc k) ∙ ap (λ (i : ℕ). from c (suc k) ++ (i ∷ [])) (omega arith))

-- the numbers below c alone are asked for
map_below : (f g : ℕ → ℕ × ℕ) (m k c : ℕ) → k + m ≤ c → ((i : ℕ) → i < c → f i ≡ g i) → map f (from m k) ≡ map g (from m k)
unfolding from
map_below f g zero k c h e = refl
map_below f g (suc m) k c h e = ap₂ (λ (x : ℕ × ℕ) (l : List (ℕ × ℕ)). x ∷ l) (e k (omega arith)) (map_below f g m (suc k) c (omega arith) e)

pub pairs_more : (entries : List (ℕ × ℕ)) (c : ℕ) (ab : ℕ × ℕ) → c < length entries → pairs_in (set entries c ab) (c + 1) ≡ pairs_in entries c ++ (ab ∷ [])
pairs_more entries c ab h =
    let f : ℕ → ℕ × ℕ = pair_at (set entries c ab) in
    ap (λ (m : ℕ). map f (from m 0)) (add-one c) ∙ ap (map f) (from_more c 0 ∙ ap (λ (i : ℕ). from c 0 ++ (i ∷ [])) (zero-add c))
    ∙ map-append f (from c 0) (c ∷ [])
    ∙ ap₂ (λ (l : List (ℕ × ℕ)) (x : ℕ × ℕ). l ++ (x ∷ []))
    (map_below f (pair_at entries) c 0 c (omega arith) (λ i l. get_or-set_other entries c i ab (0, 0) (λ e. omega arith)))
    (get_or-set_same entries c ab (0, 0) h)
