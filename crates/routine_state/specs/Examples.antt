-- A state worked by hand: NULL is node 1, and the list of nodes 2, 3, 4 ends in it.
use Rattle.std.specs.Prelude.{ℕ, ◌≡◌, true, false, List, [], ◌∷◌, ◌++◌, map, replicate}
use Rattle.logic.specs.Search.{from}
use Rattle.routine_logic.specs.Formulas.{reaches_by, between_by}
use Rattle.routine_state.specs.States.{state_in}

-- link 1 leads from 2 to 3, from 3 to 4 and from 4 to 1, and every other link to NULL; flag 2 of node 3 is set; variable 0 is node 2; four nodes
unfoldable pub list_bytes : List ℕ
list_bytes =
    replicate 32 1 ++ (1 ∷ 1 ∷ 3 ∷ 4 ∷ 1 ∷ []) ++ replicate 91 1 ++ replicate 64 0 ++ (0 ∷ 0 ∷ 0 ∷ 1 ∷ []) ++ replicate 220 0 ++ (2 ∷ 1 ∷ []) ++ replicate 30 1
    ++ (4 ∷ [])

pub record ExamplesHold : Type 0 where
  pub size_read : (state_in list_bytes).size ≡ 4
  pub links_read : map ((state_in list_bytes).link 1) (from 4 1) ≡ 1 ∷ 3 ∷ 4 ∷ 1 ∷ []
  pub flags_read : map ((state_in list_bytes).field 2) (from 4 1) ≡ false ∷ false ∷ true ∷ false ∷ []
  pub variables_read : map (state_in list_bytes).variable (from 3 0) ≡ 2 ∷ 1 ∷ 1 ∷ []
  -- outside the rows
  pub links_outside : (state_in list_bytes).link 4 2 ≡ 1
  pub node_outside : (state_in list_bytes).link 1 32 ≡ 1
  pub reaches_read : map (reaches_by (state_in list_bytes) 1 3) (from 4 1) ≡ true ∷ false ∷ true ∷ true ∷ []
  -- "y's least step count is not above z's": they may be equal
  pub between_read : map (between_by (state_in list_bytes) 1 2 4) (from 4 1) ≡ true ∷ false ∷ false ∷ true ∷ []
