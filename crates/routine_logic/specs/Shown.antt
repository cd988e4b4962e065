-- What is shown of a run that comes to a check: its path, the nodes that its havocs gave, and the state there (03, "Answers").
use Rattle.std.specs.Prelude.{ℕ, Bool, cond, List, [], ◌∷◌, ◌++◌, eqb}
use Rattle.std.proofs.Math.Option.{Option, none, some}
use Rattle.logic.specs.Search.{◌and◌}
use Rattle.routine_logic.specs.Syntax.{null, Term}
use Rattle.routine_logic.specs.State.{State}
use Rattle.routine_logic.specs.Formulas.{same_truth}
use Rattle.routine_logic.specs.Runs.{Kind, null_of, asserted, covered, entry, kept, ensured, Check, Event, met, gave, checked, Events, Now, Segment}
use Rattle.routine_logic.specs.Checks.{same_term}

-- one check is another: kinds are told apart by a number, a clause's number and a term
unfoldable pub kind_number : Kind → ℕ
kind_number (null_of t) = 0
kind_number asserted = 1
kind_number covered = 2
kind_number (entry i) = 3
kind_number (kept i) = 4
kind_number (ensured i) = 5

unfoldable pub clause_number : Kind → ℕ
clause_number (null_of t) = 0
clause_number asserted = 0
clause_number covered = 0
clause_number (entry i) = i
clause_number (kept i) = i
clause_number (ensured i) = i

unfoldable pub term_in : Kind → Term
term_in (null_of t) = t
term_in asserted = record { base = null; links = [] }
term_in covered = record { base = null; links = [] }
term_in (entry i) = record { base = null; links = [] }
term_in (kept i) = record { base = null; links = [] }
term_in (ensured i) = record { base = null; links = [] }

unfoldable pub same_kind : Kind → Kind → Bool
same_kind k l = eqb (kind_number k) (kind_number l) and eqb (clause_number k) (clause_number l) and same_term (term_in k) (term_in l)

unfoldable pub same_check : Check → Check → Bool
same_check c d = eqb c.statement d.statement and same_kind c.kind d.kind

-- "where the check is an invariant or an `ensures` its line comes last"
unfoldable pub own_line : Kind → ℕ → List ℕ
own_line (null_of t) line = []
own_line asserted line = []
own_line covered line = []
own_line (entry i) line = line ∷ []
own_line (kept i) line = line ∷ []
own_line (ensured i) line = line ∷ []

-- a line of a `havoc` and the node that it gave
pub record Given : Type 0 where
  pub line : ℕ
  pub node : ℕ

pub record Shown : Type 0 where
  pub path : List ℕ
  pub havocs : List Given
  pub line : ℕ
  pub state : State

-- behind a path and havocs, the first event at which the check comes to pass, or not
unfoldable pub shown_in : Check → Bool → List ℕ → List Given → Events → Option Shown
shown_in c passes path havocs [] = none
shown_in c passes path havocs (met line ∷ es) = shown_in c passes (path ++ (line ∷ [])) havocs es
shown_in c passes path havocs (gave line v ∷ es) = shown_in c passes path (havocs ++ (record { line = line; node = v } ∷ [])) es
shown_in c passes path havocs (checked d b line s ∷ es) =
    cond (same_check c d and same_truth passes b) (some (record { path = path ++ own_line d.kind line; havocs = havocs; line = line; state = s })) (shown_in c passes path havocs es)

-- "`path`, the line of `from` .. and the line of each statement that the run met, in order"
unfoldable pub shown : Segment → Now → Check → Bool → Option Shown
shown segment now c passes = shown_in c passes (segment.line ∷ []) [] (segment.go now)
