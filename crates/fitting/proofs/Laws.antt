-- What the code's tests of a rule come to.
use Prim.Native.Nat.{ℕ, ◌+◌, ◌≤◌}
use native.Mathlib.Omega.{arith}
use mathlib.Core.Path.{◌≡◌, refl, sym, ap, ◌∙◌}
use mathlib.Core.Logic.{⊎_elim}
use mathlib.Core.Bool.{Bool, true, false, not, ◌&&◌, false≢true}
use mathlib.Core.List.{List}
use lib.Dec.{eqb, ltb}
use borrow.Author.Tests.{eq-eqb, ne_eqb, lt-ltb, le-ltb, ltb-true}
use native.Mathlib.Nat.{eq-or-lt_of_le}
use Rattle.logic.specs.Search.{◌and◌}
use Rattle.logic.specs.Facts.{Graph, live}
use Rattle.logic.specs.Rules.{Rule, Triple, REFLEX, TRANS1, TRANS2, FUNC, CYCLE, SCC, TOTAL, SHARE, triple, move, next, returns, conditions, alternatives, applies}
use Rattle.theory.proofs.Basics.Search.{and_left}
use Rattle.rows.proofs.Selections.{and_four}
use Rattle.rows.specs.Square.{square}
use Rattle.link_rows.specs.Cube.{cube}
use Rattle.facts.specs.Path.{path_of, graph_of, links_in, HasLink}
use Rattle.facts.specs.declared.Facts as code
use Rattle.facts.proofs.Path.{graph_own}
use Rattle.rules.specs.Tests.{pair_test, third_test, is_not_cycle}
use Rattle.rules.specs.Allowed.{allowed}
use Rattle.link_steps.specs.Cycle.{steps_to}
use Rattle.rules.proofs.Halves.{is_cycle, halves, allowed-any, applies-allowed}
use Rattle.link_steps.proofs.Around.{steps_le, returns-not, returns_at, round_is, steps_links}

-- Tests that are made one after the other

both : (a b : Bool) → a && b ≡ (a and b)
unfolding ◌and◌
both true b = refl
both false b = refl

three : (a b c : Bool) → (a && b) && c ≡ (a and b and c)
unfolding ◌and◌
three true b c = both b c
three false b c = refl

three-right : (a b c : Bool) → (a && b) && c ≡ (a and (b and c))
unfolding ◌and◌
three-right true b c = both b c
three-right false b c = refl

four_right : (a b c d : Bool) → ((a && b) && c) && d ≡ (a and (b and c and d))
unfolding ◌and◌
four_right true b c d = three b c d
four_right false b c d = refl

five : (a b c d e : Bool) → (((a && b) && c) && d) && e ≡ (a and b and c and (d and e))
unfolding ◌and◌
five true true c d e = three-right c d e
five true false c d e = refl
five false b c d e = refl

-- Each rule's test, k being its rule and the truths those of the facts that it reads

module _ (lives : ℕ → Bool) (g : Graph) (x y z : ℕ) (k : Rule) where
  abbrev Passes : Bool → Type 0
  Passes r = r ≡ (pair_test lives g x y k and third_test g x y z k)

  pub reflex_passes : (alive xx : Bool) → k ≡ REFLEX → alive ≡ lives x → xx ≡ g.reach x x → Passes (((alive && not xx) && eqb y 0) && eqb z 0)
  unfolding pair_test third_test
  reflex_passes alive xx e a b = rw (e, a, b) (and_four (lives x) (not (g.reach x x)) (eqb y 0) (eqb z 0))

  pub trans1_passes : (near far : Bool) → k ≡ TRANS1 → near ≡ g.link x y → far ≡ g.reach x y → Passes ((near && not far) && eqb z 0)
  unfolding pair_test third_test
  trans1_passes near far e a b = rw (e, a, b) (three (g.link x y) (not (g.reach x y)) (eqb z 0))

  pub trans2_passes : (xy yz xz : Bool) → k ≡ TRANS2 → xy ≡ g.reach x y → yz ≡ g.reach y z → xz ≡ g.reach x z → Passes ((xy && yz) && not xz)
  unfolding pair_test third_test
  trans2_passes xy yz xz e a b c = rw (e, a, b, c) (three-right (g.reach x y) (g.reach y z) (not (g.reach x z)))

  pub func_passes : (xy xz yz : Bool) → k ≡ FUNC → xy ≡ g.link x y → xz ≡ g.reach x z → yz ≡ g.reach y z → Passes (((xy && xz) && not (eqb x z)) && not yz)
  unfolding pair_test third_test
  func_passes xy xz yz e a b c = rw (e, a, b, c) (four_right (g.link x y) (g.reach x z) (not (eqb x z)) (not (g.reach y z)))

  pub scc_passes : (xy yx xz zx : Bool) → k ≡ SCC → xy ≡ g.reach x y → yx ≡ g.reach y x → xz ≡ g.reach x z → zx ≡ g.reach z x → Passes ((((xy && yx) && not (eqb x y)) && xz) && not zx)
  unfolding pair_test third_test
  scc_passes xy yx xz zx e a b c d = rw (e, a, b, c, d) (five (g.reach x y) (g.reach y x) (not (eqb x y)) (g.reach x z) (not (g.reach z x)))

  pub total_passes : (xy xz yz zy : Bool) → k ≡ TOTAL → xy ≡ g.reach x y → xz ≡ g.reach x z → yz ≡ g.reach y z → zy ≡ g.reach z y → Passes (((xy && xz) && not yz) && not zy)
  unfolding pair_test third_test
  total_passes xy xz yz zy e a b c d = rw (e, a, b, c, d) (four_right (g.reach x y) (g.reach x z) (not (g.reach y z)) (not (g.reach z y)))

  pub share_passes : (xy yx xz yz : Bool) → k ≡ SHARE → xy ≡ g.reach x y → yx ≡ g.reach y x → xz ≡ g.link x z → yz ≡ g.link y z → Passes ((((xy && yx) && not (eqb x y)) && xz) && yz)
  unfolding pair_test third_test
  share_passes xy yx xz yz e a b c d = rw (e, a, b, c, d) (five (g.reach x y) (g.reach y x) (not (eqb x y)) (g.link x z) (g.link y z))

-- CYCLE is excluded
pub cycle_excluded : (r : Rule) → r ≡ CYCLE → is_not_cycle r ≡ true → ⊥
unfolding is_not_cycle
cycle_excluded r e h = false≢true (sym (ap is_not_cycle e) ∙ h)

-- A rule by a link of a path, and by rows of that link's own
module _ (n : ℕ) (s : code.Facts) (i : ℕ) (own : HasLink (path_of s) i) (link reach : List ℕ) (e : square link ≡ cube s.link i) (f : square reach ≡ cube s.reach i) where
  own-rows : graph_of link reach ≡ (path_of s).graph i
  unfolding path_of
  own-rows = graph_own s.single s.link s.reach i own.1 link reach e f

  applies-own : (r : Rule) (t : Triple) → allowed n (live n (path_of s)) (graph_of link reach) (move 1 r t) ≡ applies n (path_of s) (move i r t)
  applies-own r t =
      sym (allowed-any i n (live n (path_of s)) (graph_of link reach) r t)
      ∙ ap (λ (g : Graph). allowed n (live n (path_of s)) g (move i r t)) own-rows ∙ sym (applies-allowed n (path_of s) i (omega (arith, own.0), own.1) r t)

  -- by its two tests
  pub applies_halves : (r : Rule) (x y z : ℕ) → is_not_cycle r ≡ true → (v : Bool) → v ≡ (pair_test (live n (path_of s)) (graph_of link reach) x y r and third_test (graph_of link reach) x y z r)
      → v ≡ applies n (path_of s) (move i r (triple x y z))
  applies_halves r x y z h v u = u ∙ sym (halves n (live n (path_of s)) (graph_of link reach) x y z r h) ∙ applies-own r (triple x y z)

  pub applies-cycle : (r : Rule) (t : Triple) → is_not_cycle r ≡ false → (v : Bool) → v ≡ allowed n (live n (path_of s)) (graph_of link reach) (move 1 CYCLE t) → v ≡ applies n (path_of s) (move i r t)
  applies-cycle r t h v u = u ∙ ap (λ (k : Rule). allowed n (live n (path_of s)) (graph_of link reach) (move 1 k t)) (sym (is_cycle r h)) ∙ applies-own r t

-- CYCLE

-- a fact that is held is about numbers up to 16
pub square_within : (rows : List ℕ) (a b : ℕ) → square rows a b ≡ true → a ≤ 16
unfolding square
square_within rows a b h = let l = ltb-true a 17 (and_left (ltb a 17) _ h) in omega arith

-- no fewer than k steps are all k
all_steps : (s k : ℕ) → s ≤ k → eqb s k ≡ not (ltb s k)
all_steps s k l = ⊎_elim (λ e. eq-eqb s k e ∙ sym (ap not (le-ltb s k (omega arith)))) (λ h. ne_eqb s k (λ e. omega arith) ∙ sym (ap not (lt-ltb s k h))) (eq-or-lt_of_le l)

module _ (n : ℕ) (lives : ℕ → Bool) (link reach : List ℕ) (x y : ℕ) where
  abbrev g : Graph
  g = graph_of link reach

  abbrev cycle : ℕ → Bool
  cycle k = allowed n lives (graph_of link reach) (move 1 CYCLE (triple x y k))

  no_facts_lem : (k : ℕ) → conditions n lives (λ i. g) (move 1 CYCLE (triple x y k)) ≡ false → cycle k ≡ false
  unfolding allowed ◌and◌
  no_facts_lem k e = rw e

  pub round_unreached : (k : ℕ) → square reach x y ≡ false → cycle k ≡ false
  unfolding conditions graph_of ◌and◌
  round_unreached k e = no_facts_lem k (rw e (right (returns n g x k x)))
    where
      right : (b : Bool) → (b and false) ≡ false
      right true = refl
      right false = refl

  pub round_none : (k : ℕ) → k ≡ 0 → cycle k ≡ false
  unfolding conditions returns ◌and◌
  round_none k e = no_facts_lem k (rw e refl)

  -- the steps from the successor of x, as they are followed
  steps_from : (k c s : ℕ) → c ≡ next n (links_in link) x → s ≡ steps_to n (links_in link) x k c → s ≡ steps_to n g x k (next n g x)
  unfolding next links_in graph_of
  steps_from k c s e h = h ∙ ap (steps_to n (links_in link) x k) e ∙ steps_links n link reach x k (next n (links_in link) x)

  pub round_other : (k c s : ℕ) → c ≡ next n (links_in link) x → s ≡ steps_to n (links_in link) x k c → (k ≡ s + 1 → ⊥) → cycle k ≡ false
  unfolding conditions ◌and◌
  round_other k c s e h d =
      no_facts_lem k (rw (returns-not n g x k k x (omega arith) (λ q. d (q ∙ ap (λ (j : ℕ). j + 1) (sym (steps_from k c s e h))))) refl)

  pub round_found : (k c s t : ℕ) → square reach x y ≡ true → c ≡ next n (links_in link) x → s ≡ steps_to n (links_in link) x k c → k ≡ s + 1 → t ≡ steps_to n (links_in link) y k x → eqb t k ≡ cycle k
  unfolding allowed conditions alternatives ◌and◌ graph_of
  round_found k c s t f e h q p =
      let r : returns n g x k x ≡ true = returns_at n g x k k x (omega arith) (q ∙ ap (λ (j : ℕ). j + 1) (steps_from k c s e h)) in
      let u : t ≡ steps_to n g y k x = p ∙ steps_links n link reach y k x in
      ap (λ (j : ℕ). eqb j k) u ∙ all_steps (steps_to n g y k x) k (steps_le n g y k x) ∙ sym (rw (r, f, round_is n g y k x) refl)
