-- The terms that name nil as loops meet them, and nil joined behind what was joined before.
use Prim.Native.Nat.{ℕ, ◌+◌, ◌≤◌, ◌<◌}
use native.Mathlib.Omega.{arith}
use mathlib.Core.Path.{◌≡◌, sym, ap, ◌∙◌, subst}
use mathlib.Core.Bool.{true, false}
use mathlib.Core.List.{List, [], ◌∷◌}
use Rattle.logic.specs.Search.{select}
use Rattle.logic.specs.Query.{Entries, names_nil}
use Rattle.logic.specs.Facts.{Facts, Joined, and_then, settle, join_each, equal_to, add_links, add_nil_links, join_nil}
use Rattle.rows.proofs.Loops.{from_end, from_next}
use Rattle.joins.proofs.Joins.{and_then-unjoined, and_then-and_then}
use Rattle.plain_literals.specs.Taken.{join_one, same, Bounded}
use Rattle.nil_terms.specs.Nil.{nil_from}
use Rattle.plain_literals.proofs.Bounded.{settled}
use Rattle.plain_literals.proofs.Each.{joins}

module _ (entries : Entries) (n t : ℕ) where
  pub nil_end : n < t → nil_from entries n t ≡ []
  unfolding nil_from select
  nil_end h = rw (from_end (n + 1) t (omega arith))

  pub nil_here : t ≤ n → names_nil entries t ≡ true → nil_from entries n t ≡ t ∷ nil_from entries n (t + 1)
  unfolding nil_from select
  nil_here h e = rw (from_next (n + 1) t (omega arith), e)

  pub nil-next : t ≤ n → names_nil entries t ≡ false → nil_from entries n t ≡ nil_from entries n (t + 1)
  unfolding nil_from select
  nil-next h e = rw (from_next (n + 1) t (omega arith), e)

-- the terms that are left are joined to the first
abbrev pub others : ℕ → ℕ → List ℕ → Joined → Joined
others n first us j = and_then j (join_each n (equal_to first us))

module _ (n first : ℕ) (j : Joined) where
  others_end : others n first [] j ≡ j
  unfolding equal_to
  others_end = (joins n).done j

  others-next : (u : ℕ) (us : List ℕ) → others n first (u ∷ us) j ≡ others n first us (and_then j (join_one n (same first u)))
  unfolding equal_to
  others-next u us = (joins n).next (same first u) (equal_to first us) j

-- what is left of the others from term u on
module _ (entries : Entries) (n first : ℕ) (whole : Joined) (u : ℕ) (j : Joined) (left : whole ≡ others n first (nil_from entries n u) j) where
  pub others_step : u ≤ n → names_nil entries u ≡ true → whole ≡ others n first (nil_from entries n (u + 1)) (and_then j (join_one n (same first u)))
  others_step h e = left ∙ ap (λ (us : List ℕ). others n first us j) (nil_here entries n u h e) ∙ others-next n first j u (nil_from entries n (u + 1))

  pub others_passed : u ≤ n → names_nil entries u ≡ false → whole ≡ others n first (nil_from entries n (u + 1)) j
  others_passed h e = left ∙ ap (λ (us : List ℕ). others n first us j) (nil-next entries n u h e)

  pub others-done : n < u → whole ≡ j
  others-done h = left ∙ ap (λ (us : List ℕ). others n first us j) (nil_end entries n u h) ∙ others_end n first j

-- nil's link behind the joins
pub nil-none : (n : ℕ) (j : Joined) → and_then j (join_nil n []) ≡ j
unfolding join_nil
nil-none n j = and_then-unjoined j

nil-some : (n t : ℕ) (us : List ℕ) (j : Joined) → and_then j (join_nil n (t ∷ us)) ≡ and_then (others n t us j) (λ s. settle n n (add_nil_links t s))
unfolding join_nil
nil-some n t us j = and_then-and_then j (join_each n (equal_to t us)) (λ s. settle n n (add_nil_links t s))

-- nil's link is that of what nil became
linked_behind : (n t r : ℕ) (j : Joined) (s : Facts) → r ≡ j.facts.rep t → s ≡ add_links r r j.facts →
    and_then (record { pairs = j.pairs; facts = s }) (settle n n) ≡ and_then j (λ s. settle n n (add_nil_links t s))
unfolding and_then add_nil_links
linked_behind n t r j s e h = rw (h, e)

nil_bounded : (n t : ℕ) (j : Joined) → n ≤ 16 → Bounded j.facts → Bounded (and_then j (λ s. settle n n (add_nil_links t s))).facts
unfolding and_then add_nil_links add_links
nil_bounded n t j h b = settled n h n _ (record { within = b.within })

-- all of it: the first nil term and the others, and then nil's link
module _ (entries : Entries) (n first : ℕ) (found : nil_from entries n 1 ≡ first ∷ nil_from entries n (first + 1)) (j : Joined) where
  pub nil_opened : and_then j (join_nil n (nil_from entries n 1)) ≡ and_then (others n first (nil_from entries n (first + 1)) j) (λ s. settle n n (add_nil_links first s))
  nil_opened = ap (λ (us : List ℕ). and_then j (join_nil n us)) found ∙ nil-some n first (nil_from entries n (first + 1)) j

  module _ (joined : Joined) (are : joined ≡ others n first (nil_from entries n (first + 1)) j) (r : ℕ) (s : Facts) (e : r ≡ joined.facts.rep first) (h : s ≡ add_links r r joined.facts) where
    pub nil-whole : and_then (record { pairs = joined.pairs; facts = s }) (settle n n) ≡ and_then j (join_nil n (nil_from entries n 1))
    nil-whole =
        linked_behind n first r joined s e h ∙ ap (λ (i : Joined). and_then i (λ s. settle n n (add_nil_links first s))) are ∙ sym nil_opened

    pub nil_settled : (out : Joined) → out ≡ and_then (record { pairs = joined.pairs; facts = s }) (settle n n) → n ≤ 16 → Bounded joined.facts → Bounded out.facts
    nil_settled out d few b = subst (λ (i : Joined). Bounded i.facts) (sym (d ∙ linked_behind n first r joined s e h)) (nil_bounded n first joined few b)
