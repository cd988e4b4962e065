-- The one count of steps at which CYCLE can apply.
use Prim.Native.Nat.{ℕ, zero, suc, ◌+◌, ◌-◌, ◌≤◌, ◌<◌}
use native.Mathlib.Omega.{arith}
use native.Mathlib.Nat.{eq-or-lt_of_le}
use mathlib.Core.Path.{◌≡◌, refl, sym, ap, ap₂, ◌∙◌, fun_ext}
use mathlib.Core.Logic.{⊎_elim}
use mathlib.Core.Bool.{Bool, true, false, not}
use mathlib.Core.List.{List}
use mathlib.Core.Option.{Option, none, some, Option-elim}
use lib.ListN.{get_or}
use lib.Bits.{bit_and, bit_or}
use lib.Dec.{eqb, ltb}
use borrow.Author.Tests.{lt-ltb, ltb-true}
use Rattle.logic.specs.Search.{◌and◌, from, keep, any, or_else, first_of, find}
use Rattle.logic.specs.Facts.{Graph}
use Rattle.logic.specs.Rules.{CYCLE, Triple, triple, move, next, returns, conditions, alternatives, held}
use Rattle.theory.proofs.Basics.Search.{first_of_empty, from-mem, and_left, and_right}
use Rattle.rows.specs.Bits.{bit}
use Rattle.facts.specs.Path.{graph_of, links_in}
use Rattle.rows.proofs.Bits.{bit-and, bit-none}
use Rattle.rows.proofs.Square.{square_in}
use Rattle.rows.proofs.Finds.{find_in}
use Rattle.link_steps.specs.Cycle.{steps_to}
use Rattle.link_steps.proofs.Around.{returns-not, returns_at, round_is, steps_links, passed_more}
use Rattle.rules.specs.Allowed.{allowed}
use Rattle.rule_choice.specs.Smallest.{in_third, in_second}
use Rattle.rule_choice.proofs.Nested.{keep_through}

-- a search of the numbers below m that can succeed at k only
module _ {B : Type 0} (f : ℕ → Option B) (m k : ℕ) (only : (i : ℕ) → i < m → (i ≡ k → ⊥) → f i ≡ none) where
  first-only : (j i : ℕ) → i + j ≤ m → i ≤ k → k < i + j → first_of f (from j i) ≡ f k
  unfolding first_of from or_else
  first-only zero i b l h = absurd (omega arith)
  first-only (suc j) i b l h = ⊎_elim here (λ lt. rw (only i (omega arith) (omega arith)) (first-only j (suc i) (omega arith) lt (omega arith))) (eq-or-lt_of_le l)
    where
      none_after : i ≡ k → first_of f (from j (suc k)) ≡ none
      none_after e = first_of_empty f (from j (suc k)) (λ y q. let r = from-mem j (suc k) y q in only y (omega arith) (omega arith))

      alone : (o : Option B) → first_of f (from j (suc k)) ≡ none → or_else o (first_of f (from j (suc k))) ≡ o
      alone none e = e
      alone (some b) e = refl

      here : i ≡ k → or_else (f i) (first_of f (from j (suc i))) ≡ f k
      here e = rw e (alone (f k) (none_after e))

-- CYCLE at x and y
module _ (n : ℕ) (alive : ℕ → Bool) (g : Graph) (x y : ℕ) where
  cycle_not : (k : ℕ) → returns n g x k x ≡ false → keep (allowed n alive g (move 1 CYCLE (triple x y k))) (triple x y k) ≡ none
  unfolding allowed conditions keep ◌and◌
  cycle_not k e = rw e

  pub cycle_unreached : g.reach x y ≡ false → in_third n alive g CYCLE x y ≡ none
  unfolding in_third allowed conditions keep ◌and◌
  cycle_unreached e = first_of_empty _ _ (λ k m. go (returns n g x k x) k)
    where
      go : (t : Bool) (k : ℕ) → keep ((t and g.reach x y) and not (any (held (λ i. g)) (alternatives n (λ i. g) (move 1 CYCLE (triple x y k))))) (triple x y k) ≡ none
      go true k = rw e
      go false k = refl

  -- the links do not return to x within n steps
  pub cycle_open : n < steps_to n g x n (next n g x) + 1 → in_third n alive g CYCLE x y ≡ none
  unfolding in_third
  cycle_open h = first_of_empty _ _ (λ k m. cycle_not k (let b = from-mem _ _ k m in returns-not n g x n k x (omega arith) (λ q. omega arith)))

  -- the links return to x after k steps: CYCLE can apply at k alone
  module _ (k : ℕ) (q : k ≡ steps_to n g x n (next n g x) + 1) (h : k ≤ n) where
    cycle_at : in_third n alive g CYCLE x y ≡ keep (allowed n alive g (move 1 CYCLE (triple x y k))) (triple x y k)
    unfolding in_third
    cycle_at = first-only _ (n + 1) k (λ i b e. cycle_not i (returns-not n g x n i x (omega arith) (λ p. e (p ∙ sym q)))) (n + 1 - 0) 0 (omega arith) (omega arith) (omega arith)

    pub cycle_third : in_third n alive g CYCLE x y ≡ keep (g.reach x y and not (ltb (steps_to n g y k x) k)) (triple x y k)
    unfolding allowed conditions alternatives ◌and◌
    cycle_third = cycle_at ∙ rw (round_is n g y k x, returns_at n g x n k x h q)

-- CYCLE at x: nothing where x reaches nothing, or the links do not return; else the lowest that x reaches off the round
module _ (n : ℕ) (alive : ℕ → Bool) (g : Graph) (x : ℕ) where
  pub second_unreached : ((y : ℕ) → y ≤ n → g.reach x y ≡ false) → in_second n alive g CYCLE x ≡ none
  unfolding in_second
  second_unreached h = first_of_empty _ _ (λ y m. cycle_unreached n alive g x y (h y (let b = from-mem _ _ y m in omega arith)))

  pub second_open : n < steps_to n g x n (next n g x) + 1 → in_second n alive g CYCLE x ≡ none
  unfolding in_second
  second_open h = first_of_empty _ _ (λ y m. cycle_open n alive g x y h)

  module _ (k : ℕ) (q : k ≡ steps_to n g x n (next n g x) + 1) (h : k ≤ n) where
    second_search : in_second n alive g CYCLE x ≡ Option-elim (find (λ y. g.reach x y and not (ltb (steps_to n g y k x) k)) (from (n + 1 - 0) 0)) none (λ y. some (triple x y k))
    unfolding in_second
    second_search = ap (λ (f : ℕ → Option Triple). first_of f (from (n + 1 - 0) 0)) (fun_ext (λ y. cycle_third n alive g x y k q h)) ∙ keep_through _ (λ y. triple x y k) (from (n + 1 - 0) 0)

    pub second_none : find (λ y. g.reach x y and not (ltb (steps_to n g y k x) k)) (from (n + 1 - 0) 0) ≡ none → in_second n alive g CYCLE x ≡ none
    unfolding Option-elim
    second_none e = second_search ∙ rw e

    pub second_some : (y : ℕ) → find (λ y. g.reach x y and not (ltb (steps_to n g y k x) k)) (from (n + 1 - 0) 0) ≡ some y → in_second n alive g CYCLE x ≡ some (triple x y k)
    unfolding Option-elim
    second_some y e = second_search ∙ rw e

-- CYCLE: the numbers that x reaches, off the round
module _ (n : ℕ) (few : n ≤ 16) (link reach : List ℕ) (x : ℕ) (h : x ≤ 16) (m : ℕ) (f : (i : ℕ) → bit m i ≡ ltb i (n + 1)) where
  reach-bit : (y : ℕ) → y ≤ n → bit (bit_and (get_or reach x 0) m) y ≡ (graph_of link reach).reach x y
  unfolding graph_of ◌and◌
  reach-bit y l = bit-and (get_or reach x 0) m y ∙ rw (f y, lt-ltb y (n + 1) (omega arith)) (same (bit (get_or reach x 0) y) ∙ sym (square_in reach x y h (omega arith)))
    where
      same : (t : Bool) → t and true ≡ t
      same true = refl
      same false = refl

  pub reach-none : bit_and (get_or reach x 0) m ≡ 0 → (y : ℕ) → y ≤ n → (graph_of link reach).reach x y ≡ false
  reach-none e y l = sym (reach-bit y l) ∙ ap (λ (w : ℕ). bit w y) e ∙ bit-none y

  pub round_find : (c k s passed o v : ℕ) → c ≡ next n (links_in link) x → k ≡ s + 1 →
      ((y : ℕ) → bit passed y ≡ ltb (steps_to n (links_in link) y s c) s) → ((i : ℕ) → bit o i ≡ eqb i x) →
      ((i : ℕ) → bit v i ≡ bit (bit_and (get_or reach x 0) m) i and not (bit (bit_or passed o) i)) →
      find (bit v) (from 32 0) ≡ find (λ y. (graph_of link reach).reach x y and not (ltb (steps_to n (graph_of link reach) y k x) k)) (from (n + 1 - 0) 0)
  round_find c k s passed o v q j d e g =
      sym
      (find_in (λ y. (graph_of link reach).reach x y and not (ltb (steps_to n (graph_of link reach) y k x) k)) (bit v) (n + 1 - 0) 0 32 0 (omega arith) (omega arith)
      (λ y a b. sym (g y ∙ ap₂ (λ t u. t and not u) (reach-bit y (omega arith)) (on_round y)))
      (λ y a.
      let b = and_left (bit (bit_and (get_or reach x 0) m) y) (not (bit (bit_or passed o) y)) (sym (g y) ∙ a) in
      let l = ltb-true y (n + 1) (sym (f y) ∙ and_right (bit (get_or reach x 0) y) (bit m y) (sym (bit-and (get_or reach x 0) m y) ∙ b)) in
      (omega arith, omega arith)))
    where
      on_round : (y : ℕ) → bit (bit_or passed o) y ≡ ltb (steps_to n (graph_of link reach) y k x) k
      on_round y =
          passed_more n (links_in link) y x c s passed o q (d y) (e y)
          ∙ ap (λ (t : ℕ). ltb (steps_to n (links_in link) y t x) t) (sym j)
          ∙ ap (λ (t : ℕ). ltb t k) (steps_links n link reach y k x)
