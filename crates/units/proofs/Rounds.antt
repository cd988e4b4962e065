-- The round of a term, as it is followed.
use Prim.Native.Nat.{ℕ, ◌+◌, ◌≤◌}
use mathlib.Core.Path.{◌≡◌, refl, sym, ap, ap₂, ◌∙◌}
use mathlib.Core.Bool.{Bool, true, not}
use mathlib.Core.List.{List, [], ◌∷◌, map}
use lib.ListN.{get_or}
use lib.Bits.{bit_or}
use lib.Dec.{eqb, ltb}
use Rattle.logic.specs.Search.{◌and◌, ◌or◌, any}
use Rattle.logic.specs.Facts.{Graph}
use Rattle.logic.specs.Rules.{CYCLE, triple, move, equal, held, next, returns, round, conditions, alternatives}
use Rattle.rows.specs.Bits.{bit}
use Rattle.facts.specs.Path.{graph_of, links_in}
use Rattle.rows.proofs.Bits.{bit-none}
use Rattle.rows.proofs.Square.{square_in}
use Rattle.link_steps.specs.Cycle.{steps_to}
use Rattle.rules.specs.Allowed.{allowed}
use Rattle.link_steps.proofs.Around.{returns_at, round_is, steps_links, back_links, passed_more}

-- "x=x is always held", and no other equality
any-equal : (g : ℕ → Graph) (y : ℕ) (xs : List ℕ) → any (held g) (map (equal y) xs) ≡ any (eqb y) xs
unfolding any held ◌or◌
any-equal g y [] = refl
any-equal g y (x ∷ xs) = ap (λ (b : Bool). eqb y x or b) (any-equal g y xs)

module _ (n : ℕ) (link reach : List ℕ) (x : ℕ) where
  abbrev g : Graph
  g = graph_of link reach

  -- no steps
  pub on_none : (y : ℕ) → bit 0 y ≡ any (eqb y) (round n g 0 x)
  unfolding any round
  on_none y = bit-none y

  pub off_none : (lives : ℕ → Bool) (y : ℕ) → bit 0 y ≡ allowed n lives g (move 1 CYCLE (triple x y 0))
  unfolding allowed conditions returns ◌and◌
  off_none lives y = bit-none y

  -- the links lead back after k steps: one to c, and s from there
  module _ (c s k passed o : ℕ) (first : c ≡ next n (links_in link) x) (steps : s ≡ steps_to n (links_in link) x n c) (all : k ≡ s + 1) (within : k ≤ n)
      (through : (y : ℕ) → bit passed y ≡ ltb (steps_to n (links_in link) y s c) s) (only : (i : ℕ) → bit o i ≡ eqb i x) where
    on_steps : (y : ℕ) → bit (bit_or passed o) y ≡ ltb (steps_to n g y k x) k
    on_steps y =
        passed_more n (links_in link) y x c s passed o first (through y) (only y)
        ∙ ap (λ (t : ℕ). ltb (steps_to n (links_in link) y t x) t) (sym all)
        ∙ ap (λ (t : ℕ). ltb t k) (steps_links n link reach y k x)

    pub on_bits : (y : ℕ) → bit (bit_or passed o) y ≡ any (eqb y) (round n g k x)
    on_bits y = on_steps y ∙ sym (round_is n g y k x) ∙ any-equal (λ j. g) y (round n g k x)

    pub off_bits : (v : ℕ) → ((i : ℕ) → bit v i ≡ bit (get_or reach x 0) i and not (bit (bit_or passed o) i)) → x ≤ 16 → (lives : ℕ → Bool) (y : ℕ) →
        y ≤ 16 → bit v y ≡ allowed n lives g (move 1 CYCLE (triple x y k))
    unfolding allowed conditions alternatives ◌and◌ graph_of
    off_bits v e h lives y l =
        let r : returns n g x k x ≡ true = returns_at n g x n k x within (all ∙ back_links n link reach x c s first steps) in
        e y ∙ ap₂ (λ a b. a and not b) (sym (square_in reach x y h l)) (on_steps y) ∙ sym (rw (r, round_is n g y k x) refl)
