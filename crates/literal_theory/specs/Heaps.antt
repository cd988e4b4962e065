-- A state and its heap with cut links, and back (03, "A way": cut links).
use Rattle.std.specs.Prelude.{ℕ, List, map}
use Rattle.logic.specs.Search.{from}
use Rattle.routine_logic.specs.State.{State}
use Rattle.cut_theory.specs.Versions.{version, cut}
use Rattle.path_theory.specs.Points.{initial, given}
use Rattle.literal_theory.specs.Labels.{Label, named, Plan, cut_names}

module _ (P : Plan) (node : Label → ℕ) where
  abbrev pub cut_node : ℕ → ℕ → ℕ
  cut_node i k = node ((cut_names P i).cut k)

  abbrev pub old_node : ℕ → ℕ → ℕ
  old_node i k = node ((cut_names P i).old k)

  -- "let h be f as it was at the segment's start, but with each xi leading to itself"; a query's variables are names by number
  unfoldable pub cut_heap : State → (ℕ → ℕ) → State
  cut_heap s names = record { size = s.size; link = λ i. cut (s.link i) (cut_node i) (cut_names P i).number; field = s.field; variable = names }

  -- "and wi what f led to from xi"
  unfoldable pub start_state : State → State
  start_state g =
      record {
        size = g.size;
        link = λ i. version (g.link i) (cut_node i) (old_node i) (cut_names P i).number;
        field = g.field;
        variable = λ x. node (named (initial x));
      }

  -- the nodes that havocs give
  unfoldable pub given_nodes : List ℕ
  given_nodes = map (λ k. node (named (given k))) (from P.havocs 0)
