-- The whole routine (03, claim 4): where no check of it can fail, none fails in any run, its loops run for real.
use Prim.Native.Nat.{ℕ}
use mathlib.Core.Path.{◌≡◌, refl}
use mathlib.Core.Bool.{true, false}
use mathlib.Core.List.{Memᴰ}
use Rattle.routine_logic.specs.Syntax.{Routine}
use Rattle.routine_logic.specs.Runs.{Check, can_fail, Now, Segment, segments, finishing, stop, whole_run}
use Rattle.routine_logic.specs.Answers.{Starts, Run, events, Happens, Fails}
use Rattle.routine_logic.specs.Claims.{CheckOf, WholeRoutine}
use Rattle.routine_theory.proofs.Passing.{Passing, passing_intro, passing_elim}
use Rattle.routine_theory.proofs.Chains.{SegmentsPass, run_follows}
use Rattle.routine_theory.proofs.Listed.{checks_listed}

-- each segment passes, since whatever it comes to is a check of the routine
segments_pass : (r : Routine) → ((c : Check) → CheckOf r c → Fails r c → ⊥) → SegmentsPass (segments r)
segments_pass r h g m n s =
    let x : Run r = record { segment = g; of_routine = m; now = n; starts = s } in
    passing_intro (events x) (λ c k y. h c (checks_listed r x c false y) (x, y, k))

pub whole_routine : WholeRoutine
unfolding segments whole_run Passing
whole_routine =
    record {
      never_fails = λ r h m n s c k.
          let pass : SegmentsPass (segments r) = segments_pass r h in
          passing_elim _ (run_follows m (finishing r) r.body (finishing r) (finishing r) stop stop
          (λ g z. pass g (Memᴰ.tail z)) (λ n' v p. p) (λ n' v p. p) n (record { is_state = s.is_state; nodes = s.nodes })
          (pass _ (Memᴰ.head refl) n s)) c k;
    }
