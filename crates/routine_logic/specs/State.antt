-- States (03, "What a text means").
use Rattle.std.specs.Prelude.{ℕ, ◌≡◌, Bool, false, cond, List, [], ◌∷◌, eqb}
use Rattle.logic.specs.Search.{◌and◌}
use Rattle.logic.specs.Heap.{Heap, IsHeap}

-- "A state is a heap and a node for each variable." "A heap is one of 01 and R-11": links and flags that no text declares have any value.
abbrev pub State : Type 0
State = Heap

-- "One node is NULL": of a heap's nodes it is the first, since a heap is one up to the numbers of its nodes.
abbrev pub null_node : ℕ
null_node = 1

-- "its links lead to itself and its flags are 0"
pub record IsState (s : State) : Type 0 where
  pub is_heap : IsHeap s
  pub null_link : (i : ℕ) → s.link i null_node ≡ null_node
  pub null_flag_lem : (j : ℕ) → s.field j null_node ≡ false

-- a function with another value at one place, or at one pair of places
unfoldable pub changed : {A : Type 0} → (ℕ → A) → ℕ → A → ℕ → A
changed f x a y = cond (eqb y x) a (f y)

unfoldable pub changed_at : {A : Type 0} → (ℕ → ℕ → A) → ℕ → ℕ → A → ℕ → ℕ → A
changed_at f i x a j y = cond (eqb j i and eqb y x) a (f j y)

-- a state with another node for a variable, another target of a node's link, another value of its flag
unfoldable pub with_variable : State → ℕ → ℕ → State
with_variable s x v = record { size = s.size; link = s.link; field = s.field; variable = changed s.variable x v }

unfoldable pub with_link : State → ℕ → ℕ → ℕ → State
with_link s i v w = record { size = s.size; link = changed_at s.link i v w; field = s.field; variable = s.variable }

unfoldable pub with_flag : State → ℕ → ℕ → Bool → State
with_flag s j v b = record { size = s.size; link = s.link; field = changed_at s.field j v b; variable = s.variable }
