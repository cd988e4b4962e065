-- What rows hold, number by number.
use Prim.Native.Nat.{ℕ, ◌+◌, ◌≤◌, ◌<◌}
use native.Mathlib.Omega.{arith}
use mathlib.Core.Path.{◌≡◌, sym, ap, ◌∙◌, subst, subst₂}
use mathlib.Core.Logic.{⊎_elim}
use mathlib.Core.Bool.{Bool, true, cond}
use mathlib.Core.List.{List}
use lib.ListN.{get_or}
use Rattle.logic.specs.Facts.{Graph}
use Rattle.theory.proofs.Basics.Search.{true-false}
use Rattle.theory.proofs.Basics.Compare.{eq_cases, le_cases}
use Rattle.rows.specs.Bits.{bit}
use Rattle.rows.specs.Square.{row_of, square}
use Rattle.rows.proofs.Square.{row_in, row_none, square_row, square_in, square_above, square_beside}
use Rattle.link_rows.specs.Cube.{cube}
use Rattle.facts.specs.Path.{graph_of, no_facts, graphs, rep_of, path_of}
use Rattle.facts.proofs.Path.{links_few, graph_at, graph_beyond, graph-none, graph_own}
use Rattle.facts.specs.declared.Facts as code
use Rattle.covering.specs.Covers.{RowHeld, RowsHeld, GraphHeld, SameReps, Covers}

-- a property of all numbers below k, of k, and so of all below k + 1
abbrev pub Below : (ℕ → Type 0) → ℕ → Type 0
Below P k = (i : ℕ) → i < k → P i

module _ (P : ℕ → Type 0) where
  pub below_more : (k : ℕ) → Below P k → P k → Below P (k + 1)
  below_more k all here i l = ⊎_elim (λ e. subst P (sym e) here) (λ d. all i (omega (arith, d))) (eq_cases i k)

  pub below_all : (k : ℕ) → 17 ≤ k → Below P k → (i : ℕ) → i ≤ 16 → P i
  below_all k past all i l = all i (omega arith)

-- one number of a row
pub held_here : (far to stands : ℕ) → to ≡ stands → to ≤ 16 → bit far to ≡ true → row_of far stands ≡ true
held_here far to stands e l f = ap (row_of far) (sym e) ∙ row_in far to l ∙ f

-- one row
module _ (rows reps others : List ℕ) (a : ℕ) (l : a ≤ 16) where
  in_row : (b : ℕ) → square rows a b ≡ true → b ≤ 16
  in_row b e = ⊎_elim (λ m. m) (λ m. absurd (true-false e (square_beside rows a b (omega arith)))) (le_cases b 16)

  pub none_held : get_or rows a 0 ≡ 0 → (b : ℕ) → square rows a b ≡ true → square others (rep_of reps a) (rep_of reps b) ≡ true
  none_held e b f = absurd (true-false f (ap (λ (r : ℕ → Bool). r b) (square_row rows a l) ∙ ap (λ (w : ℕ). row_of w b) e ∙ row_none b))

  pub row_held : (to : ℕ) → to ≡ rep_of reps a → to ≤ 16 → RowHeld (get_or rows a 0) (rep_of reps) (get_or others to 0) → (b : ℕ) → square rows a b ≡ true →
      square others (rep_of reps a) (rep_of reps b) ≡ true
  row_held to e l' h b f =
      let m = in_row b f in
      ap (λ (x : ℕ). square others x (rep_of reps b)) (sym e)
      ∙ ap (λ (r : ℕ → Bool). r (rep_of reps b)) (square_row others to l')
      ∙ h b m (sym (square_in rows a b l m) ∙ f)

-- all rows
pub rows_held : (rows reps others : List ℕ) →
    ((a : ℕ) → a ≤ 16 → (b : ℕ) → square rows a b ≡ true → square others (rep_of reps a) (rep_of reps b) ≡ true) → RowsHeld (square rows) (rep_of reps) (square others)
rows_held rows reps others h a b e =
    ⊎_elim (λ l. h a l b e) (λ l. absurd (true-false e (square_above rows a b (omega arith)))) (le_cases a 16)

-- The whole path, link by link: a number that is no link of s has no facts there
module _ (w s : code.Facts) where
  abbrev graph : code.Facts → ℕ → Graph
  graph p = graphs p.single p.link p.reach

  abbrev pub LinkHeld : ℕ → Type 0
  LinkHeld k = GraphHeld (graph s k) (rep_of w.rep) (graph w k)

  no_facts_lem : (k : ℕ) → graph s k ≡ no_facts → LinkHeld k
  unfolding no_facts
  no_facts_lem k e = (λ a b f. absurd (true-false f (ap (λ (g : Graph). g.link a b) e)), λ a b f. absurd (true-false f (ap (λ (g : Graph). g.reach a b) e)))

  -- 0 is the number of no link
  pub links-none : Below LinkHeld 1
  links-none k l = no_facts_lem k (graph_at s.single s.link s.reach k (omega (arith, l, (links_few s.single).0)) ∙ graph-none s.link s.reach k (omega arith))

  -- a link in rows of its own
  pub link_held : (k : ℕ) → k ≤ cond s.single 1 3 → k ≤ cond w.single 1 3 → (l r l' r' : List ℕ) → square l ≡ cube s.link k →
      square r ≡ cube s.reach k → square l' ≡ cube w.link k → square r' ≡ cube w.reach k → GraphHeld (graph_of l r) (rep_of w.rep) (graph_of l' r') → LinkHeld k
  link_held k m m' l r l' r' d e d' e' =
      subst₂ (λ (f g : Graph). GraphHeld f (rep_of w.rep) g) (graph_own s.single s.link s.reach k m l r d e) (graph_own w.single w.link w.reach k m' l' r' d' e')

  pub links-all : SameReps (rep_of w.rep) (rep_of s.rep) → (k : ℕ) → cond s.single 1 3 < k → Below LinkHeld k → Covers (path_of w) (path_of s)
  unfolding path_of
  links-all same k past below = record { same_reps = same; links_held = λ i. (each i).0; reach_held = λ i. (each i).1 }
    where
      each : (i : ℕ) → LinkHeld i
      each i = ⊎_elim (λ l. below i (omega (arith, l, past))) (λ l. no_facts_lem i (graph_beyond s.single s.link s.reach i l)) (le_cases i (cond s.single 1 3))
