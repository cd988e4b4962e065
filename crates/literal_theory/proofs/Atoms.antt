-- In a state, labels standing for their own nodes, and its heap with cut links: atoms at a point are their trees.
use Prim.Native.Nat.{ℕ, ◌≤◌, ◌<◌}
use native.Mathlib.Omega.{arith}
use mathlib.Core.Path.{◌≡◌, sym, ap, ◌∙◌, subst}
use mathlib.Core.Logic.{◌↔◌}
use mathlib.Core.Bool.{Bool, true, false, not, cond}
use mathlib.Core.List.{List, map}
use lib.Dec.{eqb}
use Rattle.logic.specs.Heap.{Node, IsHeap, Reaches}
use Rattle.theory.proofs.Basics.Compare.{ltb_intro, cond-true}
use Rattle.between.specs.Meaning.{Between}
use Rattle.routine_logic.specs.Syntax.{Term, equal, unequal, reaches, between, flag}
use Rattle.routine_logic.specs.State.{State, IsState}
use Rattle.routine_logic.specs.Formulas.{node, reaches_by, between_by, holds, same_truth}
use Rattle.routine_theory.proofs.Means.{reaches_means, between_means}
use Rattle.cut_theory.specs.Versions.{version, cut, is_cut}
use Rattle.cut_theory.specs.Trees.{Tree, reaches_tree, between_tree, read_tree, flag_tree, Holds}
use Rattle.cut_theory.proofs.Jumps.{IsCut}
use Rattle.cut_theory.proofs.Trees.{reaches_tree_lem, between_tree_lem, read_tree_lem, flag_tree_lem}
use Rattle.path_theory.specs.Points.{Stores, none, Point, node_of, link_of, flag_of, state_at}
use Rattle.path_theory.specs.Assignments.{count, assigned_at, Begins}
use Rattle.path_theory.proofs.Assignments.{cut_version, along_below}
use Rattle.literal_theory.specs.Labels.{Label, term_label, label_node, Plan, cut_label, cut_names, marks_of}
use Rattle.literal_theory.specs.Forms.{Form, equals, literals, meets_form}
use Rattle.literal_theory.specs.Heaps.{cut_node, cut_heap}
use Rattle.literal_theory.proofs.Nodes.{AllNodes, point_heap, label_is-node, read-node, term_node, flag_after_lem}
use Rattle.literal_theory.proofs.Literals.{same_truth_lem, truth_not, literals-test}

-- A state, nodes for havocs and for `forall`s that fail.
pub record Ground (s : State) (nodes : List ℕ) (picks : ℕ → List Bool → ℕ) : Type 0 where
  pub is_state : IsState s
  pub all_nodes : AllNodes s nodes
  pub chosen_nodes : (k : ℕ) (d : List Bool) → Node s (picks k d)

module _ (s : State) (nodes : List ℕ) (picks : ℕ → List Bool → ℕ) (ground : Ground s nodes picks) (P : Plan) where
  abbrev pub label : Label → ℕ
  label = label_node s nodes picks

  pub label-node : (l : Label) → Node s (label l)
  label-node = label_is-node s ground.is_state nodes ground.all_nodes picks ground.chosen_nodes

  -- what the link led to from a cut
  pub olds : (i k : ℕ) → label ((cut_names P i).old k) ≡ s.link i (label ((cut_names P i).cut k))
  unfolding cut_names link_of
  olds i k = read-node s nodes picks i none (cut_label P i k)

  -- the first cuts are what the path assigns
  pub own_cuts : (i k : ℕ) → k < count (P.stores i) → cut_node P label i k ≡ node_of s nodes (assigned_at (P.stores i) k)
  unfolding cut_names cut_label label_node
  own_cuts i k l = ap label (cond-true _ _ (ltb_intro l))

  few : (i : ℕ) → count (P.stores i) ≤ (cut_names P i).number
  unfolding cut_names
  few i = omega arith

  abbrev pub cut_link : ℕ → ℕ → ℕ
  cut_link i = cut (s.link i) (cut_node P label i) (cut_names P i).number

  -- Trees of a link after some of the path's assignments
  module _ (first : ℕ → Bool) (i : ℕ) (w : Stores) (h : Begins w (P.stores i)) where
    below : count w ≤ (cut_names P i).number
    below = along_below s nodes i (P.stores i) (cut_node P label i) (cut_names P i).number (few i) (own_cuts i) h

    same_link : link_of s nodes i w ≡ version (s.link i) (cut_node P label i) (λ k. label ((cut_names P i).value k)) (count w)
    unfolding label_node cut_names
    same_link = cut_version s nodes i (P.stores i) (cut_node P label i) (cut_names P i).number (few i) (own_cuts i) h

    pub reaches-holds : (a b : Label) → Holds label (cut_link i) first (reaches_tree (cut_names P i) (count w) a b) ↔ Reaches (link_of s nodes i w) (label a) (label b)
    reaches-holds a b =
        let r = reaches_tree_lem label (s.link i) first (cut_names P i) (λ k l. olds i k) (count w) below a b in
        (λ x. subst (λ (f : ℕ → ℕ). Reaches f (label a) (label b)) (sym same_link) (r.0 x), λ x. r.1 (subst (λ (f : ℕ → ℕ). Reaches f (label a) (label b)) same_link x))

    pub between_holds : (a b z : Label) → IsCut (cut_node P label i) (cut_names P i).number (label z) →
        Holds label (cut_link i) first (between_tree (cut_names P i) (count w) a b z) ↔ Between (link_of s nodes i w) (label a) (label b) (label z)
    between_holds a b z k =
        let r = between_tree_lem label (s.link i) first (cut_names P i) (λ k l. olds i k) (count w) below a b z k in (
          λ x. subst (λ (f : ℕ → ℕ). Between f (label a) (label b) (label z)) (sym same_link) (r.0 x),
          λ x. r.1 (subst (λ (f : ℕ → ℕ). Between f (label a) (label b) (label z)) same_link x),
        )

    pub read_holds : (a r : Label) → Holds label (cut_link i) first (read_tree (cut_names P i) (count w) a r) ↔ (link_of s nodes i w (label a) ≡ label r)
    read_holds a r =
        let x = read_tree_lem label (s.link i) first (cut_names P i) (λ k l. olds i k) (count w) below a r in
        (λ y. ap (λ (f : ℕ → ℕ). f (label a)) same_link ∙ x.0 y, λ y. x.1 (sym (ap (λ (f : ℕ → ℕ). f (label a)) same_link) ∙ y))

  -- The heap with cut links, its variables being some nodes
  module _ (names : ℕ → ℕ) (name_nodes : (n : ℕ) → Node s (names n)) where
    cut-node : (f c : ℕ → ℕ) (n v : ℕ) → Node s v → Node s (f v) → Node s (cut f c n v)
    unfolding cut
    cut-node f c n v h k = go (is_cut c n v)
      where
        go : (b : Bool) → Node s (cond b v (f v))
        go true = h
        go false = k

    pub cut_is_heap : IsHeap (cut_heap P label s names)
    unfolding cut_heap
    cut_is_heap =
        record {
          nonempty = ground.is_state.is_heap.nonempty;
          link_node = λ i v h. cut-node (s.link i) (cut_node P label i) (cut_names P i).number v h (ground.is_state.is_heap.link_node i v h);
          variable_node = name_nodes;
        }

    abbrev pub says : Form Label → Bool
    says = meets_form (cut_heap P label s names) s nodes label

    -- a tree that says what a test says
    pub tree_test : (b : Bool) (i j : ℕ) (t : Tree Label) (test : Bool) → (Holds label (cut_link i) (s.field j) t ↔ (test ≡ true)) →
        says (literals b i j t) ≡ same_truth b test
    unfolding cut_heap
    tree_test b i j t test h = literals-test (cut_heap P label s names) s nodes label cut_is_heap label-node b i j t test h

    -- Atoms at a point of the path
    module _ (p : Point) (on_path : (i : ℕ) → Begins (p.stores i) (P.stores i)) (e : List Label) where
      abbrev here : State
      here = state_at s nodes p

      abbrev bounds : List ℕ
      bounds = map label e

      point_is_heap : IsHeap here
      point_is_heap = point_heap s ground.is_state nodes ground.all_nodes p

      at_term : (t : Term) → label (term_label p e t) ≡ node here bounds t
      at_term t = term_node s nodes picks p e t

      node-here : (l : Label) → Node here (label l)
      unfolding state_at
      node-here l = label-node l

      pub equal_atom : (b : Bool) (t u : Term) → says (equals b (term_label p e t) (term_label p e u)) ≡ same_truth b (holds here bounds (equal t u))
      unfolding meets_form holds
      equal_atom b t u = ap (λ (v : ℕ). same_truth b (eqb v (label (term_label p e u)))) (at_term t) ∙ ap (λ (v : ℕ). same_truth b (eqb (node here bounds t) v)) (at_term u)

      pub unequal_atom : (b : Bool) (t u : Term) → says (equals (not b) (term_label p e t) (term_label p e u)) ≡ same_truth b (holds here bounds (unequal t u))
      unfolding holds
      unequal_atom b t u = equal_atom (not b) t u ∙ truth_not b (eqb (node here bounds t) (node here bounds u))

      pub reaches_atom : (b : Bool) (i : ℕ) (t u : Term) →
          says (literals b i 0 (reaches_tree (cut_names P i) (count (p.stores i)) (term_label p e t) (term_label p e u))) ≡ same_truth b (holds here bounds (reaches i t u))
      unfolding holds state_at
      reaches_atom b i t u =
          let x : Label = term_label p e t in
          let y : Label = term_label p e u in
          let r = reaches-holds (s.field 0) i (p.stores i) (on_path i) x y in
          let m = reaches_means here point_is_heap i (label x) (node-here x) (label y) in
          tree_test b i 0 (reaches_tree (cut_names P i) (count (p.stores i)) x y) (reaches_by here i (label x) (label y)) (λ h. m.1 (r.0 h), λ h. r.1 (m.0 h))
          ∙ ap (λ (v : ℕ). same_truth b (reaches_by here i v (label y))) (at_term t)
          ∙ ap (λ (v : ℕ). same_truth b (reaches_by here i (node here bounds t) v)) (at_term u)

      pub between_atom : (b : Bool) (i : ℕ) (t u v : Term) → IsCut (cut_node P label i) (cut_names P i).number (label (term_label p e v)) →
          says (literals b i 0 (between_tree (cut_names P i) (count (p.stores i)) (term_label p e t) (term_label p e u) (term_label p e v)))
          ≡ same_truth b (holds here bounds (between i t u v))
      unfolding holds state_at
      between_atom b i t u v k =
          let x : Label = term_label p e t in
          let y : Label = term_label p e u in
          let z : Label = term_label p e v in
          let r = between_holds (s.field 0) i (p.stores i) (on_path i) x y z k in
          let m = between_means here point_is_heap i (label x) (node-here x) (label y) (label z) in
          tree_test b i 0 (between_tree (cut_names P i) (count (p.stores i)) x y z) (between_by here i (label x) (label y) (label z)) (λ h. m.1 (r.0 h), λ h. r.1 (m.0 h))
          ∙ ap (λ (w : ℕ). same_truth b (between_by here i w (label y) (label z))) (at_term t)
          ∙ ap (λ (w : ℕ). same_truth b (between_by here i (node here bounds t) w (label z))) (at_term u)
          ∙ ap (λ (w : ℕ). same_truth b (between_by here i (node here bounds t) (node here bounds u) w)) (at_term v)

      pub flag_atom : (b : Bool) (j : ℕ) (t : Term) →
          says (literals true 0 j (flag_tree (marks_of (p.marks j)) b (term_label p e t))) ≡ same_truth b (holds here bounds (flag j t))
      unfolding holds state_at same_truth
      flag_atom b j t =
          let x : Label = term_label p e t in
          let r = flag_tree_lem label (s.link 0) (s.field j) (cut_names P 0) (λ k l. olds 0 k) 0 (omega arith) (marks_of (p.marks j)) b x in
          let f = flag_after_lem s nodes picks (cut_link 0) j (p.marks j) (label x) in
          tree_test true 0 j (flag_tree (marks_of (p.marks j)) b x) (same_truth b (flag_of s nodes j (p.marks j) (label x)))
          (λ h. (same_truth_lem b _).1 (sym f ∙ r.0 h), λ h. r.1 (f ∙ (same_truth_lem b _).0 h))
          ∙ ap (λ (w : ℕ). same_truth b (flag_of s nodes j (p.marks j) w)) (at_term t)
