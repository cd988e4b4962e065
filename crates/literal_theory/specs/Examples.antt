-- Examples that the definitions are held to: paths of the first example of 03, and one for each rule that is easily lost.
use Rattle.std.specs.Prelude.{ℕ, ◌≡◌, Bool, true, false, List, [], ◌∷◌, map}
use Rattle.std.proofs.Math.Option.{Option-elim}
use Rattle.logic.specs.Search.{◌and◌, select, at}
use Rattle.routine_logic.specs.Syntax.{equal, between, flag, negation, both, either, same, forall, end, assign, assign_link, assign_flag, assert, Routine}
use Rattle.routine_logic.specs.State.{State}
use Rattle.routine_logic.specs.Formulas.{same_truth}
use Rattle.routine_logic.specs.Runs.{Kind, asserted, ensured, Check}
use Rattle.routine_logic.specs.Shown.{same_check}
use Rattle.routine_logic.specs.Examples.{NULL, name, each, via, place, plainly, state_of, remove, bent}
use Rattle.path_theory.specs.Points.{Name, nil, initial, read, Stores, none, store}
use Rattle.path_theory.specs.Paths.{Case, segment_paths, start_trail}
use Rattle.literal_theory.specs.Labels.{Label, named, chosen, label_node, Plan}
use Rattle.literal_theory.specs.Forms.{Form, truth, equals, reach, next, bit, meet, join, meets_form, alternatives}
use Rattle.literal_theory.specs.Heaps.{cut_heap}
use Rattle.literal_theory.specs.Translation.{unlinked, tidy, reading, plan_of, case_form, case_labels}
use Rattle.literal_theory.specs.Translation as form
use Rattle.literal_theory.specs.Numbers.{numbered}

-- the cases of a check, passed or failed, that the paths from the routine's start come to
unfoldable pub cases_of : Routine → Check → Bool → List Case
cases_of r c b = Option-elim (at (segment_paths r) 1) [] (λ h. select (λ x. same_check x.check c and same_truth b x.passes) (h.follow (start_trail h.assumes)))

abbrev pub of_kind : ℕ → Kind → Check
of_kind number kind = record { statement = number; kind = kind }

-- whether the cut heap of a state meets the formula of each case, where `forall`s fail at some nodes
unfoldable pub met_by : State → List ℕ → (List Bool → ℕ) → Case → Bool
met_by s nodes pick x =
    let node : Label → ℕ = label_node s nodes (λ k d. pick d) in
    meets_form (cut_heap (plan_of x) node s s.variable) s nodes node (case_form (1 ∷ []) (1 ∷ []) x)

unfoldable pub all_met : Routine → Check → Bool → State → List ℕ → (List Bool → ℕ) → List Bool
all_met r c b s nodes pick = map (met_by s nodes pick) (cases_of r c b)

-- the list of 03's first example: NULL is node 1, head 2, p 3, and 3 leads to 4, 4 to 5, 5 to NULL; all are old
abbrev pub five_nodes : State
five_nodes = state_of ((1 ∷ 3 ∷ 4 ∷ 5 ∷ 1 ∷ []) ∷ []) ((0 ∷ 1 ∷ 1 ∷ 1 ∷ 1 ∷ []) ∷ []) (2 ∷ 3 ∷ 1 ∷ 1 ∷ [])

-- two assignments, to a and to c, and then what a leads to is d
unfoldable pub twice : Routine
twice = plainly (assign_link (place 0 2) (name 0) 1 (name 1) (assign_link (place 1 3) (name 2) 1 (name 3) (assert (place 2 4) (equal (via (name 0) 1) (name 3)) end)))

-- nodes 2 and 3, each leading to NULL; a and c are the first node, or a is the first and c the second; b is NULL and d the second
abbrev pub one_node : State
one_node = state_of ((1 ∷ 1 ∷ 1 ∷ []) ∷ []) [] (2 ∷ 1 ∷ 2 ∷ 3 ∷ [])

abbrev pub two_nodes : State
two_nodes = state_of ((1 ∷ 1 ∷ 1 ∷ []) ∷ []) [] (2 ∷ 1 ∷ 3 ∷ 3 ∷ [])

-- what stood at a is read before an assignment to b, and at the end again
unfoldable pub elsewhere : Routine
elsewhere = plainly (assign (place 0 2) 2 (via (name 0) 1) (assign_link (place 1 3) (name 1) 1 NULL (assert (place 2 4) (equal (via (name 0) 1) (name 2)) end)))

-- every node but NULL is marked
unfoldable pub marked : Routine
marked = plainly (assign_flag (place 0 2) (name 0) 1 true (assert (place 1 3) (forall (either (equal each NULL) (flag 1 each))) end))

abbrev pub one_unmarked : State
one_unmarked = state_of ((1 ∷ 1 ∷ 1 ∷ []) ∷ []) ((0 ∷ 0 ∷ 0 ∷ []) ∷ []) (2 ∷ [])

-- one of two flags is set at every node but NULL
unfoldable pub one_of_two : Routine
one_of_two =
    plainly (assert (place 0 2) (either (forall (either (equal each NULL) (flag 1 each))) (forall (either (equal each NULL) (flag 2 each)))) end)

-- node 2 has the second flag only, node 3 the first only
abbrev pub both_lacking : State
both_lacking = state_of ((1 ∷ 1 ∷ 1 ∷ []) ∷ []) ((0 ∷ 0 ∷ 1 ∷ []) ∷ (0 ∷ 1 ∷ 0 ∷ []) ∷ []) []

-- the left one fails at node 2 and the right one at node 3
unfoldable pub apart : List Bool → ℕ
apart [] = 1
apart (false ∷ d) = 2
apart (true ∷ d) = 3

-- a is b
unfoldable pub alike : Routine
alike = plainly (assert (place 0 2) (equal (name 0) (name 1)) end)

-- b is between a and c
unfoldable pub ordered : Routine
ordered = plainly (assert (place 0 2) (between 1 (name 0) (name 1) (name 2)) end)

-- names a, b, c at the start; the assignment a->next = b
abbrev pub a : Name
a = initial 0

abbrev pub b : Name
b = initial 1

abbrev pub c : Name
c = initial 2

abbrev pub a_to_b : Stores
a_to_b = store none a b

abbrev pub one_plan : Plan
one_plan = record { stores = λ i. a_to_b; further = λ i. []; havocs = 0 }

-- what is read at a name: the value of a cut that it is, or by the cut link
unfoldable pub read_as : Name → Name → Name → Form Label
read_as at value r =
    join
    (join (meet (equals true (named a) (named at)) (meet (meet (truth true) (truth true)) (equals true (named value) (named r)))) (truth false))
    (meet (meet (equals false (named a) (named at)) (truth true)) (next true 1 (named at) (named r)))

pub record ExamplesHold : Type 0 where
  -- "the first `ensures` can fail", on the third of its paths: q is not NULL, and r is not
  pub bent_fails : all_met bent (of_kind 0 (ensured 0)) false five_nodes [] (λ d. 1) ≡ false ∷ true ∷ false ∷ []
  pub bent_passes : all_met bent (of_kind 0 (ensured 0)) true five_nodes [] (λ d. 1) ≡ false ∷ false ∷ false ∷ []
  pub remove_passes : all_met (remove end) (of_kind 0 (ensured 0)) true five_nodes [] (λ d. 1) ≡ false ∷ true ∷ []
  pub remove_holds : all_met (remove end) (of_kind 0 (ensured 0)) false five_nodes [] (λ d. 1) ≡ false ∷ false ∷ []
  -- "two cuts that are one node: only the last assignment counts"
  pub one_node' : all_met twice (of_kind 2 asserted) true one_node [] (λ d. 1) ≡ true ∷ []
  pub one_node_fails : all_met twice (of_kind 2 asserted) false one_node [] (λ d. 1) ≡ false ∷ []
  pub two_nodes_lem : all_met twice (of_kind 2 asserted) true two_nodes [] (λ d. 1) ≡ false ∷ []
  -- "Reading `t->f` before and after an assignment elsewhere"
  pub read_elsewhere : all_met elsewhere (of_kind 2 asserted) true (state_of ((1 ∷ 3 ∷ 1 ∷ []) ∷ []) [] (2 ∷ 3 ∷ [])) [] (λ d. 1) ≡ true ∷ []
  pub read_there : all_met elsewhere (of_kind 2 asserted) true (state_of ((1 ∷ 3 ∷ 1 ∷ []) ∷ []) [] (2 ∷ 2 ∷ [])) [] (λ d. 1) ≡ false ∷ []
  -- a `forall` fails at the node that is chosen, and at no other
  pub forall_fails : all_met marked (of_kind 1 asserted) false one_unmarked [] (λ d. 3) ≡ true ∷ []
  pub forall_elsewhere : all_met marked (of_kind 1 asserted) false one_unmarked [] (λ d. 2) ≡ false ∷ []
  -- b is between a and c, and on a ring from a over c to b it is not
  pub between_holds : all_met ordered (of_kind 0 asserted) true (state_of ((1 ∷ 3 ∷ 4 ∷ 2 ∷ []) ∷ []) [] (2 ∷ 3 ∷ 4 ∷ [])) [] (λ d. 1) ≡ true ∷ []
  pub between_fails : all_met ordered (of_kind 0 asserted) true (state_of ((1 ∷ 3 ∷ 4 ∷ 2 ∷ []) ∷ []) [] (2 ∷ 4 ∷ 3 ∷ [])) [] (λ d. 1) ≡ false ∷ []
  -- readings at c, at first and after the assignment
  pub read_first : reading one_plan (named (read 1 none c)) ≡
      join
      (join (meet (equals true (named a) (named c)) (meet (truth true) (equals true (named (read 1 none a)) (named (read 1 none c))))) (truth false))
      (meet (meet (equals false (named a) (named c)) (truth true)) (next true 1 (named c) (named (read 1 none c))))
  pub read_after : reading one_plan (named (read 1 a_to_b c)) ≡ read_as c b (read 1 a_to_b c)
  -- two `forall`s that are denied fail at two nodes
  pub two_foralls : all_met one_of_two (of_kind 0 asserted) false both_lacking [] apart ≡ true ∷ []
  pub two_foralls_once : all_met one_of_two (of_kind 0 asserted) false both_lacking [] (λ d. 2) ≡ false ∷ []
  -- over terms by number: NULL is 1, a is 2 and b is 3
  pub by_number : map (numbered (1 ∷ []) (1 ∷ [])) (cases_of alike (of_kind 0 asserted) false) ≡
      meet (meet (bit false 1 1) (truth true)) (meet (meet (equals false 2 3) (truth true)) (meet (meet (truth true) (meet (truth true) (truth true))) (truth true))) ∷ []
  -- the labels of a case, with the node at which its `forall` fails
  pub labels_of_case : map (case_labels (1 ∷ []) []) (cases_of marked (of_kind 1 asserted) false) ≡
      (named nil ∷ named nil ∷ named nil ∷ named nil ∷ chosen 0 [] ∷ named a ∷ named a ∷ named nil ∷ []) ∷ []
  -- "With no `forall` whose bound name bears a link"; "No alternation"
  pub bears_none : unlinked (forall (equal each (via (name 0) 1))) ≡ true
  pub bears_link : unlinked (forall (equal (via each 1) (name 0))) ≡ false
  pub plain_forall : form.plainly true (both (forall (equal each NULL)) (negation (equal each NULL))) ≡ true
  pub denied_forall : form.plainly true (negation (forall (equal each NULL))) ≡ false
  pub below_same : form.plainly true (same (forall (equal each NULL)) (equal each NULL)) ≡ false
  pub tidy_denied : tidy false (forall (forall (equal each NULL))) ≡ true
  pub alternating : tidy true (forall (negation (forall (equal each NULL)))) ≡ false
  -- behind a literal the other alternative has its negation
  pub taken_apart : alternatives {A = ℕ} (join (equals true 2 3) (reach true 1 2 3)) ≡ (equals true 2 3 ∷ []) ∷ (reach true 1 2 3 ∷ equals false 2 3 ∷ []) ∷ []
