-- What right answers mean (03, "Answers"; claims 2 to 4).
use Prim.Native.Nat.{ℕ}
use mathlib.Core.Path.{◌≡◌, sym, ◌∙◌}
use mathlib.Core.Logic.{◌↔◌}
use mathlib.Core.Bool.{Bool, true, false, false≢true}
use Rattle.routine_logic.specs.Syntax.{Routine}
use Rattle.routine_logic.specs.Runs.{Check, can_fail, Segment, Now, whole_run}
use Rattle.routine_logic.specs.Answers.{Starts, Run, events, Happens, Comes, Fails, Met, Reason, Answer, unreached, holding, impossible, failing, possible, undecided, Shows, Right}
use Rattle.routine_logic.specs.Claims.{CheckOf, RightAnswers}
use Rattle.routine_theory.proofs.Whole.{whole_routine}

module _ (r : Routine) (c : Check) where
  -- a state that is shown is a run's
  shown_run : (passes : Bool) (g : Segment) (n : Now) → Shows r c passes g n → (x : Run r) × Happens (events x) c passes
  shown_run passes g n s = (record { segment = g; of_routine = s.of_routine; now = n; starts = s.starts }, s.happens)

  run_shown : (passes : Bool) (x : Run r) → Happens (events x) c passes → Shows r c passes x.segment x.now
  run_shown passes x h = record { of_routine = x.of_routine; starts = x.starts; happens = h }

  -- of a check that can fail
  module _ (can : can_fail c.kind ≡ true) where
    pub unreached_means : Right r c unreached ↔ (Comes r c → ⊥)
    unreached_means = (λ h. h.1, λ h. (can, h))

    pub holding_means : Right r c holding ↔ (Fails r c → ⊥)
    holding_means = (λ h. h.1, λ h. (can, h))

    -- "can fail" exactly where a run fails: the state shown is one, and each state of a run that fails may be shown
    pub failing_means : ((g : Segment) × (n : Now) × Right r c (failing g n)) ↔ Fails r c
    failing_means = (
      λ h. let x = shown_run false h.0 h.1 h.2.1 in (x.0, x.1, can),
      λ h. (h.0.segment, h.0.now, (can, run_shown false h.0 h.1)),
    )

    -- what no run comes to holds
    pub unreached_holds : Right r c unreached → Right r c holding
    unreached_holds h = holding_means.1 (λ x. h.1 (x.0, false, x.1))

    -- one who answers `holds` does not also answer `can fail`, nor of a cover's answers one
    pub holding_only : Right r c holding → (g : Segment) (n : Now) → Right r c (failing g n) → ⊥
    holding_only h g n f = h.1 (failing_means.0 (g, n, f))

    pub not-impossible : Right r c impossible → ⊥
    not-impossible h = false≢true (sym h.0 ∙ can)

    pub not-possible : (g : Segment) (n : Now) → Right r c (possible g n) → ⊥
    not-possible g n h = false≢true (sym h.0 ∙ can)

  -- of a cover
  module _ (cover : can_fail c.kind ≡ false) where
    pub impossible_means : Right r c impossible ↔ (Met r c → ⊥)
    impossible_means = (λ h. h.1, λ h. (cover, h))

    pub possible_means : ((g : Segment) × (n : Now) × Right r c (possible g n)) ↔ Met r c
    possible_means = (
      λ h. shown_run true h.0 h.1 h.2.1,
      λ h. (h.0.segment, h.0.now, (cover, run_shown true h.0 h.1)),
    )

    pub not-unreached : Right r c unreached → ⊥
    not-unreached h = false≢true (sym cover ∙ h.0)

    pub not-holding : Right r c holding → ⊥
    not-holding h = false≢true (sym cover ∙ h.0)

    pub not-failing : (g : Segment) (n : Now) → Right r c (failing g n) → ⊥
    not-failing g n h = false≢true (sym cover ∙ h.0)

  -- whatever is undecided is no claim
  pub undecided_means : (reason : Reason) → Right r c (undecided reason)
  undecided_means reason = tt

-- an answer that is neither `can fail` nor `undecided`
unfoldable pub Settled : Answer → Type 0
Settled unreached = Unit
Settled holding = Unit
Settled impossible = Unit
Settled (failing g n) = ⊥
Settled (possible g n) = Unit
Settled (undecided reason) = ⊥

settled_holds : (r : Routine) (c : Check) (a : Answer) → Settled a → Right r c a → Fails r c → ⊥
unfolding Settled
settled_holds r c unreached s h x = h.1 (x.0, false, x.1)
settled_holds r c holding s h x = h.1 x
settled_holds r c impossible s h x = not-impossible r c x.2 h
settled_holds r c (failing g n) s h x = s
settled_holds r c (possible g n) s h x = not-possible r c x.2 g n h
settled_holds r c (undecided reason) s h x = s

-- 4: "if no check of a routine can fail or is undecided, no run of it .. fails at any of its checks", of whatever answers right
pub answers_whole : (answer : Routine → Check → Answer) → RightAnswers answer → (r : Routine) → ((c : Check) → CheckOf r c → Settled (answer r c)) →
    (m : ℕ) (n : Now) → Starts r.requires n → (c : Check) → can_fail c.kind ≡ true → Happens (whole_run m r n) c false → ⊥
answers_whole answer right r settled = whole_routine.never_fails r (λ c of. settled_holds r c (answer r c) (settled c of) (right r c of))
