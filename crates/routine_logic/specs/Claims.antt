-- What is claimed of routines (03, "What must be proved").
use Rattle.std.specs.Prelude.{ℕ, ◌≡◌, Bool, true, false}
use mathlib.Core.List.{List, Memᴰ}
use Rattle.routine_logic.specs.Syntax.{Routine}
use Rattle.routine_logic.specs.Runs.{Check, can_fail, Now, whole_run}
use Rattle.routine_logic.specs.Checks.{Listed, checks}
use Rattle.routine_logic.specs.Answers.{Starts, Run, events, Happens, Fails, Answer, Right}

-- a check of the routine
abbrev pub CheckOf : Routine → Check → Type 0
CheckOf r c = (l : Listed) × Memᴰ l (checks r) × (l.check ≡ c)

-- whatever a run of a segment comes to is one of the routine's checks
abbrev pub ChecksListed : Type 0
ChecksListed = (r : Routine) (x : Run r) (c : Check) (passes : Bool) → Happens (events x) c passes → CheckOf r c

-- 2 and 3: "for every finite heap, no run of a segment fails at that check"; "the state .. makes the run fail there (meet it)". Of whatever
-- decides checks.
abbrev pub RightAnswers : (Routine → Check → Answer) → Type 0
RightAnswers answer = (r : Routine) (c : Check) → CheckOf r c → Right r c (answer r c)

-- 4: "if no check of a routine can fail or is undecided, no run of it from any finite heap that meets its `requires`, its loops run for real any
-- number of times, fails at any of its checks."
pub record WholeRoutine : Type 0 where
  pub never_fails : (r : Routine) → ((c : Check) → CheckOf r c → Fails r c → ⊥) →
      (m : ℕ) (n : Now) → Starts r.requires n → (c : Check) → can_fail c.kind ≡ true → Happens (whole_run m r n) c false → ⊥
