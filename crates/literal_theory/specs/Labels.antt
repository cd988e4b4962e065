-- The names that a check on a path asks for (03, "A way": "a heap, every node of which has a name").
use Rattle.std.specs.Prelude.{ℕ, ◌+◌, ◌-◌, Bool, cond, List, [], ◌∷◌, ◌++◌, ltb, length, get_or}
use Rattle.routine_logic.specs.Syntax.{Base, null, variable, bound, Term}
use Rattle.routine_logic.specs.State.{State}
use Rattle.cut_theory.specs.Trees.{Cuts, Mark}
use Rattle.path_theory.specs.Points.{Name, nil, initial, given, read, Stores, none, store, Marks, unmarked, mark, Point, node_of, link_of}
use Rattle.path_theory.specs.Assignments.{count, assigned_at, value_at}

-- A label: a name of the path; the node at which a `forall` of a fact that is denied fails, by the number of the fact and where the `forall` stands in it;
-- and what a link leads to from a label after some assignments of the path.
pub data Label : Type 0 where
  named : Name → Label
  chosen : ℕ → List Bool → Label
  after : ℕ → Stores → Label → Label

-- what a link leads to: one label for one link, assignments and label
unfoldable pub read_label : ℕ → Stores → Label → Label
read_label i w (named a) = named (read i w a)
read_label i w (chosen k d) = after i w (chosen k d)
read_label i w (after j v l) = after i w (after j v l)

-- the label of a term at a point, with labels for the names of the `forall`s around
unfoldable pub base_label : Point → List Label → Base → Label
base_label p e null = named nil
base_label p e (variable x) = named (p.env x)
base_label p e (bound i) = get_or e i (named nil)

unfoldable pub along_label : Point → List ℕ → Label → Label
along_label p [] l = l
along_label p (i ∷ is) l = along_label p is (read_label i (p.stores i) l)

unfoldable pub term_label : Point → List Label → Term → Label
term_label p e t = along_label p t.links (base_label p e t.base)

-- a label and all that it is made of
unfoldable mutual
  pub names_in : Name → List Label
  names_in nil = named nil ∷ []
  names_in (initial x) = named (initial x) ∷ []
  names_in (given k) = named (given k) ∷ []
  names_in (read i w a) = named (read i w a) ∷ (stores_in w ++ names_in a)

  pub stores_in : Stores → List Label
  stores_in none = []
  stores_in (store w a b) = stores_in w ++ (names_in a ++ names_in b)

unfoldable pub labels_in : Label → List Label
labels_in (named a) = names_in a
labels_in (chosen k d) = chosen k d ∷ []
labels_in (after i w l) = after i w l ∷ (stores_in w ++ labels_in l)

-- What labels stand for, by the state at the start, the nodes that havocs give, and the nodes at which `forall`s fail.
module _ (s : State) (nodes : List ℕ) (picks : ℕ → List Bool → ℕ) where
  unfoldable pub label_node : Label → ℕ
  label_node (named a) = node_of s nodes a
  label_node (chosen k d) = picks k d
  label_node (after i w l) = link_of s nodes i w (label_node l)

-- Where the links of a path are cut: at all that it assigns, "`between(x,y,z)` is the same with z as one more cut"; and how many havocs it has met.
pub record Plan : Type 0 where
  pub stores : ℕ → Stores
  pub further : ℕ → List Label
  pub havocs : ℕ

unfoldable pub cut_label : Plan → ℕ → ℕ → Label
cut_label P i k = cond (ltb k (count (P.stores i))) (named (assigned_at (P.stores i) k)) (get_or (P.further i) (k - count (P.stores i)) (named nil))

-- "(or, not yet assigned, to wi)": what the link led to from each cut at the start is a label too
unfoldable pub cut_names : Plan → ℕ → Cuts Label
cut_names P i =
    record {
      number = count (P.stores i) + length (P.further i);
      cut = cut_label P i;
      value = λ k. named (value_at (P.stores i) k);
      old = λ k. read_label i none (cut_label P i k);
    }

-- assignments to a flag, the last one first
unfoldable pub marks_of : Marks → List (Mark Label)
marks_of unmarked = []
marks_of (mark m a b) = record { name = named a; value = b } ∷ marks_of m
