-- The nodes of names and terms, as the code comes to them.
use Prim.Native.Nat.{ℕ, zero, suc, ◌+◌, ◌-◌, ◌≤◌, ◌<◌}
use native.Mathlib.Numerals.{add-one}
use native.Mathlib.Omega.{arith}
use borrow.Author.Tests.{eq-eqb, ne_eqb, lt-ltb, le-ltb}
use mathlib.Core.Path.{◌≡◌, refl, ap, sym, ◌∙◌}
use mathlib.Core.List.{List}
use lib.ListN.{length, get_or, drop, drop_of_length-le, get_or-eq_default}
use lib.Seq.{drop-cons}
use Rattle.routine_logic.specs.State.{State}
use Rattle.routine_logic.specs.Formulas.{Bound, base_node, follow, node}
use Rattle.routine_table.specs.Cells.{Table, cell, base_of, links_of, term_of}
use Rattle.routine_state.specs.States.{node_in}
use Rattle.routine_formulas.specs.Names.{bound_in}

-- names
module _ (bytes : List ℕ) where
  pub bound_here : (d i : ℕ) → i < d → node_in bytes (d - 1 - i) ≡ get_or (bound_in bytes d) i 1
  unfolding bound_in
  bound_here zero i h = absurd (omega arith)
  bound_here (suc d) zero h = ap (node_in bytes) place
    where
      place : suc d - 1 - 0 ≡ d
      place = omega arith
  bound_here (suc d) (suc i) h = ap (node_in bytes) place ∙ bound_here d i (omega arith)
    where
      place : suc d - 1 - suc i ≡ d - 1 - i
      place = omega arith

  bound_count : (d : ℕ) → length (bound_in bytes d) ≡ d
  unfolding bound_in
  bound_count zero = refl
  bound_count (suc d) = ap suc (bound_count d)

  pub bound_none : (d i : ℕ) → d ≤ i → 1 ≡ get_or (bound_in bytes d) i 1
  bound_none d i h = sym (get_or-eq_default (bound_in bytes d) 1 (omega (arith, bound_count d, h)))

module _ (s : State) (e : Bound) where
  pub base_null : (c : ℕ) → c ≡ 0 → 1 ≡ base_node s e (base_of c)
  unfolding base_node base_of
  base_null c h = rw h

  pub base_variable : (c r : ℕ) → (c ≡ 0 → ⊥) → c < 64 → r ≡ s.variable (c - 1) → r ≡ base_node s e (base_of c)
  unfolding base_node base_of
  base_variable c r h k q = rw (ne_eqb c 0 h, lt-ltb c 64 k) q

  pub base_bound : (c r : ℕ) → (c ≡ 0 → ⊥) → 64 ≤ c → r ≡ get_or e (c - 64) 1 → r ≡ base_node s e (base_of c)
  unfolding base_node base_of
  base_bound c r h k q = rw (ne_eqb c 0 h, le-ltb c 64 k) q

-- links, from a place of the table on
module _ (s : State) (t : Table) where
  pub term_begin : (e : Bound) (p c v : ℕ) → c ≡ cell t p → v ≡ base_node s e (base_of c) → node s e (term_of t p) ≡ follow s (links_of (drop (p + 1) t)) v
  unfolding node term_of
  term_begin e p c v k h = ap (λ (w : ℕ). follow s (links_of (drop (p + 1) t)) w) (sym (h ∙ ap (λ (b : ℕ). base_node s e (base_of b)) k))

  pub node-at_same : (e : Bound) (p q v : ℕ) → p ≡ q → v ≡ node s e (term_of t p) → v ≡ node s e (term_of t q)
  node-at_same e p q v h k = k ∙ ap (λ (b : ℕ). node s e (term_of t b)) h

  pub follow_done : (at i v : ℕ) → at < length t → i ≡ cell t at → i ≡ 0 → follow s (links_of (drop at t)) v ≡ v
  unfolding follow links_of
  follow_done at i v h k z = rw (drop-cons t at 0 h, eq-eqb (cell t at) 0 (sym k ∙ z))

  pub follow_next : (at i v w : ℕ) → at < length t → i ≡ cell t at → (i ≡ 0 → ⊥) → w ≡ s.link i v → follow s (links_of (drop at t)) v ≡ follow s (links_of (drop (at + 1) t)) w
  unfolding follow links_of
  follow_next at i v w h k z q =
      rw (drop-cons t at 0 h, ne_eqb (cell t at) 0 (λ n. z (k ∙ n)), add-one at)
      (ap (λ (u : ℕ). follow s (links_of (drop (suc at) t)) u) (ap (λ (j : ℕ). s.link j v) (sym k) ∙ sym q))

  pub follow_end : (at v : ℕ) → length t ≤ at → follow s (links_of (drop at t)) v ≡ v
  unfolding follow links_of
  follow_end at v h = rw (drop_of_length-le t {i = at} h)
