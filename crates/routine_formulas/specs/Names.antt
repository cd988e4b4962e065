-- The nodes of the names of the `forall`s around, as bytes: the outermost name's first, d of them.
use Rattle.std.specs.Prelude.{ℕ, zero, suc, ◌≡◌, Bool, cond, not, List, [], ◌∷◌, length, eqb}
use Rattle.logic.specs.Search.{◌and◌, ◌or◌}
use Rattle.routine_logic.specs.Formulas.{Bound, same_truth}
use Rattle.routine_state.specs.States.{node_in}

-- "the innermost first"
unfoldable pub bound_in : List ℕ → ℕ → Bound
bound_in bytes zero = []
bound_in bytes (suc d) = node_in bytes d ∷ bound_in bytes d

-- the first d names are as they were
pub record Kept (before after : List ℕ) (d : ℕ) : Type 0 where
  pub same_length : length after ≡ length before
  pub same_names : bound_in after d ≡ bound_in before d

-- the truth of `&&`, `||` and `=>`, by their kinds, and of `<=>`, from that of their sides
unfoldable pub truth_of : ℕ → Bool → Bool → Bool
truth_of kind a b = cond (eqb kind 8) (a and b) (cond (eqb kind 9) (a or b) (cond (eqb kind 10) (not a or b) (same_truth a b)))
