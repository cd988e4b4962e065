-- What it says that a rule applies, and what gives it.
use Prim.Native.Nat.{ℕ, suc, ◌≤◌}
use native.Mathlib.Omega.{arith}
use mathlib.Core.Path.{◌≡◌}
use mathlib.Core.Bool.{Bool, true, false, not}
use mathlib.Core.List.{map, Memᴰ}
use Rattle.logic.specs.Search.{◌and◌, from, any, flat_map}
use Rattle.logic.specs.Facts.{Facts, live}
use Rattle.logic.specs.Rules.{Rule, Triple, triple, triples, Move, move, conditions, alternatives, held, has_link, applies}
use Rattle.theory.proofs.Basics.Search.{and_left, and_right, and_intro, not-true, not_intro, from-mem, flat_map-mem, map-mem}
use Rattle.theory.proofs.Basics.Compare.{ltb_intro, leb_intro}
use Rattle.theory.proofs.Paths.Ranged.{InRange, link_range}

-- a triple that is searched is of numbers up to n
pub triple_range : (n x y z : ℕ) → Memᴰ (triple x y z) (triples n) → (x ≤ n) × (y ≤ n) × (z ≤ n)
unfolding triples
triple_range n x y z m =
    let a = flat_map-mem (λ x. flat_map (λ y. map (triple x y) (from (suc n) 0)) (from (suc n) 0)) (triple x y z) (from (suc n) 0) m in
    let b = flat_map-mem (λ y. map (triple a.0 y) (from (suc n) 0)) (triple x y z) (from (suc n) 0) a.2 in
    let c = map-mem (triple a.0 b.0) (triple x y z) (from (suc n) 0) b.2 in
    let ra = from-mem (suc n) 0 a.0 a.1 in
    let rb = from-mem (suc n) 0 b.0 b.1 in
    let rc = from-mem (suc n) 0 c.0 c.1 in
    let e = c.2 in
    let ex : x ≡ a.0 = cc in
    let ey : y ≡ b.0 = cc in
    let ez : z ≡ c.0 = cc in
    (omega arith, omega arith, omega arith)

pub has_link_range : (links i : ℕ) (r : Rule) (t : Triple) → has_link links (move i r t) ≡ true → InRange links i
unfolding has_link
has_link_range links i r t h = link_range links i h

pub has_link_intro : (links i : ℕ) (r : Rule) (t : Triple) → InRange links i → has_link links (move i r t) ≡ true
unfolding has_link
has_link_intro links i r t h = and_intro (ltb_intro h.0) (leb_intro h.1)

module _ (n : ℕ) (s : Facts) (m : Move) where
  abbrev Met : Bool
  Met = conditions n (live n s) s.graph m

  -- some alternative is held already
  abbrev Done : Bool
  Done = any (held s.graph) (alternatives n s.graph m)

  module _ (h : applies n s m ≡ true) where
    pub applies_linked : has_link s.links m ≡ true
    unfolding applies
    applies_linked = and_left (has_link s.links m) Met (and_left (has_link s.links m and Met) (not Done) h)

    pub applies_met : conditions n (live n s) s.graph m ≡ true
    unfolding applies
    applies_met = and_right (has_link s.links m) Met (and_left (has_link s.links m and Met) (not Done) h)

    pub applies_new : any (held s.graph) (alternatives n s.graph m) ≡ false
    unfolding applies
    applies_new = not-true (and_right (has_link s.links m and Met) (not Done) h)

  pub applies_intro : has_link s.links m ≡ true → conditions n (live n s) s.graph m ≡ true → any (held s.graph) (alternatives n s.graph m) ≡ false → applies n s m ≡ true
  unfolding applies
  applies_intro l c d = and_intro (and_intro l c) (not_intro d)
