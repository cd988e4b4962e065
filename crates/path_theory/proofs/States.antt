-- The state at a point behind a statement is the state that the statement makes of the state at the point before it.
use Prim.Native.Nat.{ℕ, suc}
use mathlib.Core.Path.{◌≡◌, refl, sym, ap, ◌∙◌, fun_ext}
use mathlib.Core.Bool.{Bool, true, false, cond}
use mathlib.Core.List.{List, [], ◌∷◌}
use lib.Dec.{eqb}
use lib.ListN.{get_or}
use Rattle.logic.specs.Search.{◌and◌}
use Rattle.theory.proofs.Basics.Compare.{eqb-true}
use Rattle.theory.proofs.Basics.Search.{bool_cases}
use Rattle.routine_logic.specs.Syntax.{Base, null, variable, bound, Term}
use Rattle.routine_logic.specs.State.{State, null_node, changed, changed_at, with_variable, with_link, with_flag}
use Rattle.routine_logic.specs.Formulas.{base_node, follow, node}
use Rattle.path_theory.specs.Points.{Name, nil, initial, given, read, Stores, none, store, Marks, unmarked, mark, Point, at_start}
use Rattle.path_theory.specs.Points.{base_name, along, name_of, named, linked, marked, havocked, node_of, link_of, flag_of, state_at}

-- a function of a value that is changed at one place
changed-ap : {A B : Type 0} (g : A → B) (f : ℕ → A) (x : ℕ) (a : A) (y : ℕ) → g (changed f x a y) ≡ changed (λ z. g (f z)) x (g a) y
unfolding changed
changed-ap g f x a y = go (eqb y x)
  where
    go : (b : Bool) → g (cond b a (f y)) ≡ cond b (g a) (g (f y))
    go true = refl
    go false = refl

-- values at two places, the second changed at one of the first
changed_row : {A B : Type 0} (g : ℕ → A → ℕ → B) (f : ℕ → A) (i : ℕ) (a : A) (x : ℕ) (v : B) → ((y : ℕ) → g i a y ≡ changed (g i (f i)) x v y) →
    (j y : ℕ) → g j (changed f i a j) y ≡ changed_at (λ k. g k (f k)) i x v j y
unfolding changed changed_at ◌and◌
changed_row g f i a x v h j y = go (eqb j i) refl
  where
    go : (b : Bool) → eqb j i ≡ b → g j (cond b a (f j)) y ≡ cond (b and eqb y x) v (g j (f j) y)
    go true e = let same : j ≡ i = eqb-true j i e in rw same (h y)
    go false e = refl

module _ (s : State) (nodes : List ℕ) where
  -- the node of a term's name is the term's node
  along-node : (p : Point) (is : List ℕ) (a : Name) → node_of s nodes (along p is a) ≡ follow (state_at s nodes p) is (node_of s nodes a)
  unfolding along follow node_of state_at
  along-node p [] a = refl
  along-node p (i ∷ is) a = along-node p is (read i (p.stores i) a)

  base-node : (p : Point) (b : Base) → node_of s nodes (base_name p b) ≡ base_node (state_at s nodes p) [] b
  unfolding base_name base_node node_of state_at
  base-node p null = refl
  base-node p (variable x) = refl
  base-node p (bound i) = refl

  pub name_node : (p : Point) (t : Term) → node_of s nodes (name_of p t) ≡ node (state_at s nodes p) [] t
  unfolding name_of node
  name_node p t = along-node p t.links (base_name p t.base) ∙ ap (follow (state_at s nodes p) t.links) (base-node p t.base)

  abbrev with_variables : Point → (ℕ → ℕ) → State
  with_variables p f = record { size = s.size; link = λ i. link_of s nodes i (p.stores i); field = λ j. flag_of s nodes j (p.marks j); variable = f }

  abbrev with_links : Point → (ℕ → ℕ → ℕ) → State
  with_links p f = record { size = s.size; link = f; field = λ j. flag_of s nodes j (p.marks j); variable = λ x. node_of s nodes (p.env x) }

  abbrev with_flags : Point → (ℕ → ℕ → Bool) → State
  with_flags p f = record { size = s.size; link = λ i. link_of s nodes i (p.stores i); field = f; variable = λ x. node_of s nodes (p.env x) }

  pub named_state : (p : Point) (x : ℕ) (a : Name) → state_at s nodes (named p x a) ≡ with_variable (state_at s nodes p) x (node_of s nodes a)
  unfolding state_at named with_variable
  named_state p x a = ap (with_variables p) (fun_ext (λ y. changed-ap (node_of s nodes) p.env x a y))

  pub havocked_state : (p : Point) (x : ℕ) → state_at s nodes (havocked p x) ≡ with_variable (state_at s nodes p) x (get_or nodes p.havocs null_node)
  unfolding state_at havocked with_variable node_of
  havocked_state p x = ap (with_variables p) (fun_ext (λ y. changed-ap (node_of s nodes) p.env x (given p.havocs) y))

  pub linked_state : (p : Point) (i : ℕ) (a b : Name) → state_at s nodes (linked p i a b) ≡ with_link (state_at s nodes p) i (node_of s nodes a) (node_of s nodes b)
  unfolding state_at linked with_link link_of
  linked_state p i a b =
      ap (with_links p) (fun_ext (λ j. fun_ext (λ y.
      changed_row (link_of s nodes) p.stores i (store (p.stores i) a b) (node_of s nodes a) (node_of s nodes b) (λ z. refl) j y)))

  pub marked_state : (p : Point) (j : ℕ) (a : Name) (b : Bool) → state_at s nodes (marked p j a b) ≡ with_flag (state_at s nodes p) j (node_of s nodes a) b
  unfolding state_at marked with_flag flag_of
  marked_state p j a b =
      ap (with_flags p) (fun_ext (λ k. fun_ext (λ y.
      changed_row (flag_of s nodes) p.marks j (mark (p.marks j) a b) (node_of s nodes a) b (λ z. refl) k y)))

  -- at the start nothing has been assigned
  pub start_state : state_at s nodes at_start ≡ s
  unfolding state_at at_start node_of link_of flag_of
  start_state = refl
