-- A state as 449 bytes (03, "A state is a heap and a node for each variable"), in rows of 32:
--
-- at 32 * i + v        the node to which link i leads from node v, for links 0 to 3
-- at 128 + 32 * j + v  flag j of node v, for flags 0 to 8: it is set where the byte is 1
-- at 416 + x           the node of variable x, for 32 variables
-- at 448               how many nodes there are
--
-- Nodes are numbers below 32: of a byte above, what is left behind 32s. Outside the rows every node is NULL, and no flag is set.
use Rattle.std.specs.Prelude.{ℕ, ◌+◌, ◌*◌, ◌%◌, Bool, false, cond, List, get_or, eqb, ltb}
use Rattle.routine_logic.specs.State.{State, null_node}

abbrev pub node_in : List ℕ → ℕ → ℕ
node_in bytes p = get_or bytes p 0 % 32

-- what stands in one of the rows up to a number, at one of its 32 places, and else something else
unfoldable pub in_rows : {A : Type 0} → ℕ → ℕ → ℕ → A → A → A
in_rows most i v other a = cond (ltb most i) other (cond (ltb 31 v) other a)

unfoldable pub link_in : List ℕ → ℕ → ℕ → ℕ
link_in bytes i v = in_rows 3 i v null_node (node_in bytes (32 * i + v))

unfoldable pub flag_in : List ℕ → ℕ → ℕ → Bool
flag_in bytes j v = in_rows 8 j v false (eqb (get_or bytes (128 + 32 * j + v) 0) 1)

unfoldable pub variable_in : List ℕ → ℕ → ℕ
variable_in bytes x = cond (ltb 31 x) null_node (node_in bytes (416 + x))

abbrev pub state_in : List ℕ → State
state_in bytes = record { size = node_in bytes 448; link = link_in bytes; field = flag_in bytes; variable = variable_in bytes }

-- the byte of a flag
abbrev pub flag_byte : Bool → ℕ
flag_byte b = cond b 1 0
