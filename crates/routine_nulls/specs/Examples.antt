-- Terms worked by hand, in the list of nodes 2, 3, 4 that ends in NULL, where variable 0 is node 2.
use Rattle.std.specs.Prelude.{ℕ, ◌≡◌, List, [], ◌∷◌}
use Rattle.std.proofs.Math.Option.{none, some}
use Rattle.routine_logic.specs.Syntax.{Term, variable}
use Rattle.routine_logic.specs.Runs.{dereferenced}
use Rattle.routine_table.specs.Cells.{Table, term_of}
use Rattle.routine_state.specs.States.{state_in}
use Rattle.routine_state.specs.Examples.{list_bytes}
use Rattle.routine_nulls.specs.Nulls.{first_null, prefix_of}

-- `p->next->next->next` at 0, and with one more `->next` at 5
unfoldable pub terms : Table
terms = 1 ∷ 1 ∷ 1 ∷ 1 ∷ 0 ∷ 1 ∷ 1 ∷ 1 ∷ 1 ∷ 1 ∷ 0 ∷ []

unfoldable pub along : List ℕ → Term
along links = record { base = variable 0; links = links }

pub record ExamplesHold : Type 0 where
  -- NULL is reached, and not dereferenced
  pub reached : first_null (state_in list_bytes) (dereferenced (term_of terms 0)) ≡ none
  -- one link more fails, at the term of three links
  pub passed : first_null (state_in list_bytes) (dereferenced (term_of terms 5)) ≡ some (along (1 ∷ 1 ∷ 1 ∷ []))
  pub prefix_read : prefix_of terms 5 3 ≡ along (1 ∷ 1 ∷ 1 ∷ [])
