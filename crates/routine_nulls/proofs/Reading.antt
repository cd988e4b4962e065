-- What a run shows of its reads: it fails at the first term that is NULL, or goes on.
use Prim.Native.Nat.{ℕ}
use mathlib.Core.Path.{◌≡◌, refl, ap, ◌∙◌}
use mathlib.Core.Bool.{Bool, true, false, not, cond}
use mathlib.Core.List.{List, [], ◌∷◌, ◌++◌}
use mathlib.Core.Option.{Option, none, some, Option-elim}
use lib.Dec.{eqb}
use Rattle.logic.specs.Search.{◌and◌}
use Rattle.routine_logic.specs.Syntax.{Term, Place}
use Rattle.routine_logic.specs.State.{State, null_node}
use Rattle.routine_logic.specs.Formulas.{node, same_truth}
use Rattle.routine_logic.specs.Runs.{Kind, Check, Events, can_fail, checking, reading}
use Rattle.routine_logic.specs.Shown.{own_line, Given, Shown, shown_in}
use Rattle.routine_nulls.specs.Nulls.{first_null, failed_at}

and-true : (a : Bool) → a and true ≡ a
unfolding ◌and◌
and-true true = refl
and-true false = refl

and-false : (a : Bool) → a and false ≡ false
unfolding ◌and◌
and-false true = refl
and-false false = refl

module _ (c : Check) (p : Place) (s : State) (path : List ℕ) (havocs : List Given) (rest : Events) where
  -- what is shown where this term is the first that is NULL, or none is
  abbrev answered : Option Term → Option Shown
  answered o = Option-elim o (shown_in c false path havocs rest) (failed_at c p s path havocs)

  abbrev stopped : Option Shown
  stopped = some (record { path = path ++ []; havocs = havocs; line = p.line; state = s })

  one_read : (t : Term) (b : Bool) (es : Events) (o : Option Term) → shown_in c false path havocs es ≡ answered o →
      shown_in c false path havocs (checking p.number (Kind.null_of t) (not b) p.line s es) ≡ answered (cond b (some t) o)
  unfolding checking can_fail shown_in own_line same_truth failed_at Option-elim
  one_read t true es o h = ap (λ (b : Bool). cond b stopped none) (and-true _)
  one_read t false es o h = ap (λ (b : Bool). cond b stopped (shown_in c false path havocs es)) (and-false _) ∙ h

  pub reading_shown : (ts : List Term) → shown_in c false path havocs (reading p s ts rest) ≡ answered (first_null s ts)
  unfolding reading first_null Option-elim
  reading_shown [] = refl
  reading_shown (t ∷ ts) = one_read t (eqb (node s [] t) null_node) (reading p s ts rest) (first_null s ts) (reading_shown ts)
