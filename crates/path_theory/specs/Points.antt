-- Where a path of a segment is, in terms of the state at its start (03, "A way"): no heap but that one is spoken of. A node is named by how the path
-- came to it.
use Rattle.std.specs.Prelude.{ℕ, suc, ◌≡◌, Bool, List, [], ◌∷◌, eqb, ltb, length, get_or}
use Rattle.routine_logic.specs.Syntax.{Base, null, variable, bound, Term, Formula}
use Rattle.routine_logic.specs.State.{State, null_node, changed}
use Rattle.routine_logic.specs.Formulas.{holds}

-- A name: NULL; a variable's node at the start; the node that a `havoc` gives, counted from 0; and what a link leads to from a name after
-- some assignments to it, the first of them innermost.
mutual
  pub data Name : Type 0 where
    nil : Name
    initial : ℕ → Name
    given : ℕ → Name
    read : ℕ → Stores → Name → Name

  pub data Stores : Type 0 where
    none : Stores
    store : Stores → Name → Name → Stores

-- assignments to a flag
pub data Marks : Type 0 where
  unmarked : Marks
  mark : Marks → Name → Bool → Marks

-- the names of the variables, the assignments to each link and to each flag so far, and how many havocs have been met
pub record Point : Type 0 where
  pub env : ℕ → Name
  pub stores : ℕ → Stores
  pub marks : ℕ → Marks
  pub havocs : ℕ

unfoldable pub at_start : Point
at_start = record { env = initial; stores = λ i. none; marks = λ j. unmarked; havocs = 0 }

-- the name of a term
unfoldable pub base_name : Point → Base → Name
base_name p null = nil
base_name p (variable x) = p.env x
base_name p (bound i) = nil

unfoldable pub along : Point → List ℕ → Name → Name
along p [] a = a
along p (i ∷ is) a = along p is (read i (p.stores i) a)

unfoldable pub name_of : Point → Term → Name
name_of p t = along p t.links (base_name p t.base)

-- a point behind an assignment
unfoldable pub named : Point → ℕ → Name → Point
named p x a = record { env = changed p.env x a; stores = p.stores; marks = p.marks; havocs = p.havocs }

unfoldable pub linked : Point → ℕ → Name → Name → Point
linked p i a b = record { env = p.env; stores = changed p.stores i (store (p.stores i) a b); marks = p.marks; havocs = p.havocs }

unfoldable pub marked : Point → ℕ → Name → Bool → Point
marked p j a b = record { env = p.env; stores = p.stores; marks = changed p.marks j (mark (p.marks j) a b); havocs = p.havocs }

unfoldable pub havocked : Point → ℕ → Point
havocked p x = record { env = changed p.env x (given p.havocs); stores = p.stores; marks = p.marks; havocs = suc p.havocs }

-- What names and points stand for, by the state at the start and the nodes that havocs give.
module _ (s : State) (nodes : List ℕ) where
  unfoldable mutual
    pub node_of : Name → ℕ
    node_of nil = null_node
    node_of (initial x) = s.variable x
    node_of (given k) = get_or nodes k null_node
    node_of (read i w a) = link_of i w (node_of a)

    pub link_of : ℕ → Stores → ℕ → ℕ
    link_of i none = s.link i
    link_of i (store w a b) = changed (link_of i w) (node_of a) (node_of b)

  unfoldable pub flag_of : ℕ → Marks → ℕ → Bool
  flag_of j unmarked = s.field j
  flag_of j (mark m a b) = changed (flag_of j m) (node_of a) b

  unfoldable pub state_at : Point → State
  state_at p =
      record {
        size = s.size;
        link = λ i. link_of i (p.stores i);
        field = λ j. flag_of j (p.marks j);
        variable = λ x. node_of (p.env x);
      }
