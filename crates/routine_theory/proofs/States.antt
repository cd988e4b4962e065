-- Statements keep a state a state: terms are nodes, and NULL is assigned nothing.
use Prim.Native.Nat.{ℕ}
use mathlib.Core.Path.{◌≡◌, refl, sym, ap, ◌∙◌, subst}
use mathlib.Core.Logic.{⊎_elim}
use mathlib.Core.Bool.{Bool, true, false, cond}
use mathlib.Core.List.{List, [], ◌∷◌, Memᴰ}
use lib.Dec.{eqb}
use native.Mathlib.Omega.{arith}
use Rattle.logic.specs.Search.{◌and◌}
use Rattle.logic.specs.Heap.{Heap, Node, IsHeap}
use Rattle.theory.proofs.Basics.Search.{bool_cases, and_right, and-false}
use Rattle.theory.proofs.Basics.Compare.{eqb-true, eqb-false, cond-true, cond-false}
use Rattle.routine_logic.specs.Syntax.{Base, null, variable, bound, Term}
use Rattle.routine_logic.specs.State.{State, null_node, IsState, changed, changed_at, with_variable, with_link, with_flag}
use Rattle.routine_logic.specs.Formulas.{base_node, follow, node}

-- NULL's node, and the node of a term of a routine's own names

pub null-node : (s : State) → IsState s → Node s null_node
null-node s is = (omega arith, is.is_heap.nonempty)

base-node : (s : State) → IsState s → (b : Base) → Node s (base_node s [] b)
unfolding base_node
base-node s is null = null-node s is
base-node s is (variable x) = is.is_heap.variable_node x
base-node s is (bound i) = null-node s is

follow-node : (s : State) → IsState s → (is : List ℕ) (v : ℕ) → Node s v → Node s (follow s is v)
unfolding follow
follow-node s k [] v h = h
follow-node s k (i ∷ is) v h = follow-node s k is (s.link i v) (k.is_heap.link_node i v h)

pub term_node : (s : State) → IsState s → (t : Term) → Node s (node s [] t)
unfolding node
term_node s is t = follow-node s is t.links _ (base-node s is t.base)

-- a value chosen by a test is one or the other
cond_either : {A : Type 0} (P : A → Type 0) (b : Bool) (x y : A) → P x → P y → P (cond b x y)
cond_either P true x y h k = h
cond_either P false x y h k = k

-- a place that is not changed
unchanged : {A : Type 0} (f : ℕ → ℕ → A) (i x : ℕ) (a : A) (j y : ℕ) → (y ≡ x → ⊥) → changed_at f i x a j y ≡ f j y
unfolding changed_at
unchanged f i x a j y h = cond-false a (f j y) (ap (eqb j i and◌) (eqb-false y x h) ∙ and-false (eqb j i))

pub variable_kept : (s : State) (x v : ℕ) → IsState s → Node s v → IsState (with_variable s x v)
unfolding with_variable changed
variable_kept s x v is h =
    record {
      is_heap =
          record {
            nonempty = is.is_heap.nonempty;
            link_node = is.is_heap.link_node;
            variable_node = λ y. cond_either (Node s) (eqb y x) v (s.variable y) h (is.is_heap.variable_node y);
          };
      null_link = is.null_link;
      null_flag_lem = is.null_flag_lem;
    }

pub link_kept : (s : State) (i v w : ℕ) → IsState s → (v ≡ null_node → ⊥) → Node s w → IsState (with_link s i v w)
unfolding with_link
link_kept s i v w is n h =
    record {
      is_heap =
          record {
            nonempty = is.is_heap.nonempty;
            link_node = λ j u k. unfold changed_at in cond_either (Node s) (eqb j i and eqb u v) w (s.link j u) h (is.is_heap.link_node j u k);
            variable_node = is.is_heap.variable_node;
          };
      null_link = λ j. unchanged s.link i v w j null_node (λ e. n (sym e)) ∙ is.null_link j;
      null_flag_lem = is.null_flag_lem;
    }

pub flag_kept : (s : State) (j v : ℕ) (b : Bool) → IsState s → (v ≡ null_node → ⊥) → IsState (with_flag s j v b)
unfolding with_flag
flag_kept s j v b is n =
    record {
      is_heap = record { nonempty = is.is_heap.nonempty; link_node = is.is_heap.link_node; variable_node = is.is_heap.variable_node };
      null_link = is.null_link;
      null_flag_lem = λ i. unchanged s.field j v b i null_node (λ e. n (sym e)) ∙ is.null_flag_lem i;
    }
