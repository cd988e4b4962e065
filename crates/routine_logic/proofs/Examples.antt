-- The examples hold, by computation.
use Prim.Native.Nat.{ℕ, zero, suc, ◌-◌}
use native.Mathlib.Omega.{arith}
use mathlib.Core.Path.{◌≡◌, refl, sym}
use mathlib.Core.Bool.{false, false≢true}
use mathlib.Core.List.{[], ◌∷◌}
use mathlib.Core.Option.{Option-elim}
use lib.ListN.{get_or}
use Rattle.logic.specs.Heap.{Node}
use Rattle.logic.specs.Search.{◌and◌, ◌or◌, from, all, select, at}
use Rattle.between_search.specs.Tests.{step_count}
use Rattle.routine_logic.specs.State.{State, IsState, changed, changed_at, with_variable, with_link, with_flag}
use Rattle.routine_logic.specs.Formulas.{base_node, follow, node, reaches_by, between_by, same_truth, holds, meets}
use Rattle.routine_logic.specs.Runs.{can_fail, checking, prefixes, dereferenced, dereferenced_in, reading, testing, clauses}
use Rattle.routine_logic.specs.Runs.{giving, run, finishing, entering, returning, at_head, loop_segments, segments}
use Rattle.routine_logic.specs.Checks.{same_base, same_links, same_term, once, terms_of, nulls, invariant_checks, ensures_checks, code_checks, checks}
use Rattle.routine_logic.specs.Shown.{kind_number, clause_number, term_in, same_kind, same_check, own_line, shown_in, shown}
use Rattle.routine_logic.specs.Examples.{ExamplesHold, state_of, seen, remove, bent, unguarded, palletiser, tested, walking, rows_of}

-- NULL's link leads elsewhere; a flag of NULL is 1
astray : IsState (state_of ((2 ∷ 1 ∷ []) ∷ []) [] []) → ⊥
unfolding state_of at Option-elim
astray is = absurd (omega (arith, is.null_link 1))

flagged : IsState (state_of ((1 ∷ 1 ∷ []) ∷ []) ((1 ∷ 0 ∷ []) ∷ []) []) → ⊥
unfolding state_of at Option-elim
flagged is = false≢true (sym (is.null_flag_lem 1))

-- a list of one node behind NULL is a state: every node's link leads to NULL, or, where there is no such link, to the node itself
one_node' : State
one_node' = state_of ((1 ∷ 1 ∷ []) ∷ []) ((0 ∷ 1 ∷ []) ∷ []) []

to_null : (v : ℕ) → ◌≡◌ {A = ℕ} (get_or (1 ∷ 1 ∷ []) v 1) 1
to_null zero = refl
to_null (suc zero) = refl
to_null (suc (suc v)) = refl

one_link_lem : (i v : ℕ) → Node one_node' v → Node one_node' (one_node'.link i v)
unfolding one_node' state_of at Option-elim
one_link_lem zero v h = h
one_link_lem (suc zero) v h = rw (to_null (v - 1)) (omega arith, omega arith)
one_link_lem (suc (suc i)) v h = h

null_links : (i : ℕ) → one_node'.link i 1 ≡ 1
unfolding one_node' state_of at Option-elim
null_links zero = refl
null_links (suc zero) = refl
null_links (suc (suc i)) = refl

null_flags : (j : ℕ) → one_node'.field j 1 ≡ false
unfolding one_node' state_of at Option-elim
null_flags zero = refl
null_flags (suc zero) = refl
null_flags (suc (suc j)) = refl

at_home : IsState one_node'
unfolding one_node' state_of at Option-elim
at_home =
    record {
      is_heap = record { nonempty = omega arith; link_node = one_link_lem; variable_node = λ t. (omega arith, omega arith) };
      null_link = null_links;
      null_flag_lem = null_flags;
    }

pub examples_hold : ExamplesHold
unfolding Option-elim ◌and◌ ◌or◌ from all select at changed changed_at with_variable with_link with_flag base_node follow node step_count reaches_by
    between_by same_truth holds meets can_fail checking prefixes dereferenced dereferenced_in reading testing clauses giving run finishing entering returning
    at_head loop_segments segments same_base same_links same_term once terms_of nulls invariant_checks ensures_checks code_checks checks kind_number clause_number
    term_in same_kind same_check own_line shown_in shown state_of seen remove bent unguarded palletiser tested walking rows_of one_node'
examples_hold =
    record {
      bent_checks = refl;
      bent_fails = refl;
      remove_passes = refl;
      remove_returns = refl;
      not_admitted = refl;
      unguarded_fails = refl;
      palletiser_possible = refl;
      palletiser_not_met = refl;
      and_stops = refl;
      or_stops = refl;
      implies_stops = refl;
      and_fails = refl;
      same_fails = refl;
      flag_fails = refl;
      each_term_once = refl;
      left_first = refl;
      left_fails = refl;
      right_fails = refl;
      twice = refl;
      loop_checks = refl;
      entry_fails = refl;
      kept_holds = refl;
      kept_fails = refl;
      behind_loop = refl;
      break_loop = refl;
      return_loop = refl;
      behind_return = refl;
      havocs_given = refl;
      between_on_ring = refl;
      reaches_by_lem = refl;
      null_at_home = at_home;
      null_astray = astray;
      null_flagged = flagged;
    }
