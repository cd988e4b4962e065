-- What is answered of a check, and what it means, "against all finite heaps" (03, "Answers").
use Rattle.std.specs.Prelude.{ℕ, ◌≡◌, Bool, true, false}
use mathlib.Core.List.{List, Memᴰ}
use Rattle.logic.specs.Heap.{Node}
use Rattle.routine_logic.specs.Syntax.{Clause, Routine}
use Rattle.routine_logic.specs.State.{State, IsState}
use Rattle.routine_logic.specs.Formulas.{meets}
use Rattle.routine_logic.specs.Runs.{Check, Kind, can_fail, Event, checked, Events, Now, Segment, segments}

-- a state that meets some clauses, and nodes of it for the havocs
pub record Starts (assumes : List Clause) (n : Now) : Type 0 where
  pub is_state : IsState n.state
  pub met : meets n.state assumes ≡ true
  pub nodes : (v : ℕ) → Memᴰ v n.nodes → Node n.state v

-- "a run is of a state and of the nodes that its havocs give", from where a segment begins
pub record Run (r : Routine) : Type 0 where
  pub segment : Segment
  pub of_routine : Memᴰ segment (segments r)
  pub now : Now
  pub starts : Starts segment.assumes now

abbrev pub events : {r : Routine} → Run r → Events
events x = x.segment.go x.now

-- among these events the check comes to pass, or not
pub record Happens (es : Events) (c : Check) (passes : Bool) : Type 0 where
  pub line : ℕ
  pub state : State
  pub among : Memᴰ (checked c passes line state) es

-- a run of a segment comes to a check; fails at it; meets it, where it is a cover
abbrev pub Comes : Routine → Check → Type 0
Comes r c = (x : Run r) × (passes : Bool) × Happens (events x) c passes

abbrev pub Fails : Routine → Check → Type 0
Fails r c = (x : Run r) × Happens (events x) c false × (can_fail c.kind ≡ true)

abbrev pub Met : Routine → Check → Type 0
Met r c = (x : Run r) × Happens (events x) c true

-- "`undecided` and its reason"
pub data Reason : Type 0 where
  terms literals paths steps : Reason

pub data Answer : Type 0 where
  unreached holding impossible : Answer
  failing possible : Segment → Now → Answer
  undecided : Reason → Answer

-- a state that is shown: the run from it, by that segment, comes to the check, and it passes or not
pub record Shows (r : Routine) (c : Check) (passes : Bool) (segment : Segment) (now : Now) : Type 0 where
  pub of_routine : Memᴰ segment (segments r)
  pub starts : Starts segment.assumes now
  pub happens : Happens (segment.go now) c passes

-- "`unreached`, if no run of a segment comes to it; else `holds`, if none fails at it; `can fail`, with a state from which a segment fails at it.
-- .. For a cover `possible` with a state, or `impossible`", also where no run comes to it, as in the second example of 03. (Where a limit is
-- passed, a check that no run comes to may be said to hold.)
abbrev pub Right : Routine → Check → Answer → Type 0
Right r c unreached = (can_fail c.kind ≡ true) × (Comes r c → ⊥)
Right r c holding = (can_fail c.kind ≡ true) × (Fails r c → ⊥)
Right r c impossible = (can_fail c.kind ≡ false) × (Met r c → ⊥)
Right r c (failing segment now) = (can_fail c.kind ≡ true) × Shows r c false segment now
Right r c (possible segment now) = (can_fail c.kind ≡ false) × Shows r c true segment now
Right r c (undecided reason) = Unit
