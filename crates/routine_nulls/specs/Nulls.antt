-- Where a term dereferences NULL (03, "`t->f` fails where `t` is NULL").
use Rattle.std.specs.Prelude.{ℕ, ◌+◌, cond, List, [], ◌∷◌, ◌++◌, take, drop, eqb}
use Rattle.std.proofs.Math.Option.{Option, none, some}
use Rattle.routine_logic.specs.Syntax.{Term, Place}
use Rattle.routine_logic.specs.State.{State, null_node}
use Rattle.routine_logic.specs.Formulas.{node}
use Rattle.routine_logic.specs.Runs.{Kind, Check}
use Rattle.routine_logic.specs.Shown.{same_check, own_line, Given, Shown}
use Rattle.routine_table.specs.Cells.{Table, cell, base_of, links_of}
use Rattle.std.specs.Prelude as code
use Rattle.std.specs.Prelude.{Some, None}

-- the first of some terms that is NULL
unfoldable pub first_null : State → List Term → Option Term
first_null s [] = none
first_null s (t ∷ ts) = cond (eqb (node s [] t) null_node) (some t) (first_null s ts)

-- what is shown of a run that fails at such a term, where the check is this one
unfoldable pub failed_at : Check → Place → State → List ℕ → List Given → Term → Option Shown
failed_at c p s path havocs t =
    cond (same_check c (record { statement = p.number; kind = Kind.null_of t })) (some (record { path = path ++ own_line (Kind.null_of t) p.line; havocs = havocs; line = p.line; state = s })) none

-- the term of the first k links of the term at p
unfoldable pub prefix_of : Table → ℕ → ℕ → Term
prefix_of t p k = record { base = base_of (cell t p); links = take k (links_of (drop (p + 1) t)) }

-- what an answer says of the term at p
unfoldable pub null_of : Table → ℕ → code.Option ℕ → Option Term
null_of t p (Some k) = some (prefix_of t p k)
null_of t p None = none
