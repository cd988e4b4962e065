-- Labels stand for nodes, and for those of their terms.
use Prim.Native.Nat.{ℕ, zero, suc}
use mathlib.Core.Path.{◌≡◌, refl, sym, ap, ◌∙◌}
use mathlib.Core.Bool.{Bool, true, false, cond}
use mathlib.Core.List.{List, [], ◌∷◌, map, Memᴰ}
use lib.Dec.{eqb}
use lib.ListN.{get_or}
use Rattle.logic.specs.Heap.{Node, IsHeap}
use Rattle.routine_logic.specs.Syntax.{Base, null, variable, bound, Term}
use Rattle.routine_logic.specs.State.{State, null_node, IsState, changed}
use Rattle.routine_logic.specs.Formulas.{base_node, follow}
use Rattle.routine_logic.specs.Formulas.{node}
use Rattle.routine_theory.proofs.States.{null-node}
use Rattle.cut_theory.specs.Trees.{flag_after}
use Rattle.path_theory.specs.Points.{Name, nil, initial, given, read, Stores, none, store, Marks, unmarked, mark, Point, node_of, link_of, flag_of, state_at}
use Rattle.literal_theory.specs.Labels.{Label, named, chosen, after, read_label, base_label, along_label, term_label, label_node, marks_of}

pub get_d_map : {A B : Type 0} (f : A → B) (xs : List A) (i : ℕ) (d : A) → get_or (map f xs) i (f d) ≡ f (get_or xs i d)
get_d_map f [] zero d = refl
get_d_map f [] (suc i) d = refl
get_d_map f (x ∷ xs) zero d = refl
get_d_map f (x ∷ xs) (suc i) d = get_d_map f xs i d

changed_either : {A : Type 0} (Q : A → Type 0) (f : ℕ → A) (x : ℕ) (a : A) (y : ℕ) → Q a → Q (f y) → Q (changed f x a y)
unfolding changed
changed_either Q f x a y h k = go (eqb y x)
  where
    go : (b : Bool) → Q (cond b a (f y))
    go true = h
    go false = k

changed_alike : {A : Type 0} (f g : ℕ → A) (x : ℕ) (a : A) (y : ℕ) → f y ≡ g y → changed f x a y ≡ changed g x a y
unfolding changed
changed_alike f g x a y h = ap (cond (eqb y x) a) h

-- the nodes that are given are nodes
abbrev pub AllNodes : State → List ℕ → Type 0
AllNodes s vs = (v : ℕ) → Memᴰ v vs → Node s v

module _ (s : State) (is : IsState s) (nodes : List ℕ) (all_nodes : AllNodes s nodes) where
  pub given-node : (vs : List ℕ) → AllNodes s vs → (k : ℕ) → Node s (get_or vs k null_node)
  given-node [] h k = null-node s is
  given-node (v ∷ vs) h zero = h v (Memᴰ.head refl)
  given-node (v ∷ vs) h (suc k) = given-node vs (λ u m. h u (Memᴰ.tail m)) k

  mutual
    unfolding node_of link_of

    pub name_is-node : (a : Name) → Node s (node_of s nodes a)
    name_is-node nil = null-node s is
    name_is-node (initial x) = is.is_heap.variable_node x
    name_is-node (given k) = given-node nodes all_nodes k
    name_is-node (read i w a) = link_is-node i w (node_of s nodes a) (name_is-node a)

    pub link_is-node : (i : ℕ) (w : Stores) (v : ℕ) → Node s v → Node s (link_of s nodes i w v)
    link_is-node i none v h = is.is_heap.link_node i v h
    link_is-node i (store w a b) v h =
        changed_either (Node s) (link_of s nodes i w) (node_of s nodes a) (node_of s nodes b) v (name_is-node b) (link_is-node i w v h)

  -- the state at a point is a heap
  pub point_heap : (p : Point) → IsHeap (state_at s nodes p)
  unfolding state_at
  point_heap p =
      record {
        nonempty = is.is_heap.nonempty;
        link_node = λ i v h. link_is-node i (p.stores i) v h;
        variable_node = λ x. name_is-node (p.env x);
      }

  module _ (picks : ℕ → List Bool → ℕ) (chosen_nodes : (k : ℕ) (d : List Bool) → Node s (picks k d)) where
    pub label_is-node : (l : Label) → Node s (label_node s nodes picks l)
    unfolding label_node
    label_is-node (named a) = name_is-node a
    label_is-node (chosen k d) = chosen_nodes k d
    label_is-node (after i w l) = link_is-node i w (label_node s nodes picks l) (label_is-node l)

module _ (s : State) (nodes : List ℕ) (picks : ℕ → List Bool → ℕ) where
  abbrev at_label : Label → ℕ
  at_label = label_node s nodes picks

  pub read-node : (i : ℕ) (w : Stores) (l : Label) → at_label (read_label i w l) ≡ link_of s nodes i w (at_label l)
  unfolding read_label label_node node_of
  read-node i w (named a) = refl
  read-node i w (chosen k d) = refl
  read-node i w (after j v l) = refl

  base-node : (p : Point) (e : List Label) (b : Base) → at_label (base_label p e b) ≡ base_node (state_at s nodes p) (map at_label e) b
  unfolding base_label base_node label_node node_of state_at
  base-node p e null = refl
  base-node p e (variable x) = refl
  base-node p e (bound i) = sym (get_d_map at_label e i (named nil))

  along-node : (p : Point) (is : List ℕ) (l : Label) → at_label (along_label p is l) ≡ follow (state_at s nodes p) is (at_label l)
  unfolding along_label follow state_at
  along-node p [] l = refl
  along-node p (i ∷ is) l = along-node p is (read_label i (p.stores i) l) ∙ ap (follow (state_at s nodes p) is) (read-node i (p.stores i) l)

  -- the node of a term's label is the term's node
  pub term_node : (p : Point) (e : List Label) (t : Term) → at_label (term_label p e t) ≡ node (state_at s nodes p) (map at_label e) t
  unfolding term_label node
  term_node p e t = along-node p t.links (base_label p e t.base) ∙ ap (follow (state_at s nodes p) t.links) (base-node p e t.base)

  -- a flag after the assignments to it
  pub flag_after_lem : (h : ℕ → ℕ) (j : ℕ) (m : Marks) (v : ℕ) → flag_after at_label h (s.field j) (marks_of m) v ≡ flag_of s nodes j m v
  unfolding flag_after marks_of flag_of label_node
  flag_after_lem h j unmarked v = refl
  flag_after_lem h j (mark m a b) v = changed_alike (flag_after at_label h (s.field j) (marks_of m)) (flag_of s nodes j m) (node_of s nodes a) b v (flag_after_lem h j m v)
