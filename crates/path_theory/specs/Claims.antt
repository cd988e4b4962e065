-- What is claimed of paths: they say of the state at the start exactly what runs do (03, "A way").
use Rattle.std.specs.Prelude.{ℕ, ◌≡◌, ◌↔◌, Bool, true}
use mathlib.Core.List.{List, [], ◌∷◌, Memᴰ}
use Rattle.logic.specs.Search.{all}
use Rattle.routine_logic.specs.Syntax.{Routine}
use Rattle.routine_logic.specs.State.{State}
use Rattle.routine_logic.specs.Formulas.{meets}
use Rattle.routine_logic.specs.Runs.{Check, checked, Segment, segments}
use Rattle.path_theory.specs.Points.{state_at}
use Rattle.path_theory.specs.Paths.{fact_holds, Case, SegmentPaths, start_trail, segment_paths}

-- From a state, with nodes for the havocs, a segment comes to a check that passes or not, in a state; a path comes to it whose facts all hold.
module _ (s : State) (nodes : List ℕ) (c : Check) (passes : Bool) (at : State) where
  abbrev pub RunComes : Segment → Type 0
  RunComes g = (l : ℕ) × Memᴰ (checked c passes l at) (g.go (record { state = s; nodes = nodes }))

  pub record Tells (x : Case) : Type 0 where
    pub same_check : x.check ≡ c
    pub same_value : x.passes ≡ passes
    pub facts_hold : all (fact_holds s nodes) x.trail.facts ≡ true
    pub same_state : state_at s nodes x.trail.point ≡ at

  abbrev pub PathComes : SegmentPaths → Type 0
  PathComes h = (x : Case) × Memᴰ x (h.follow (start_trail h.assumes)) × Tells x

-- a segment and its paths
pub record SameSegment (g : Segment) (h : SegmentPaths) : Type 0 where
  pub same_assumed : g.assumes ≡ h.assumes
  pub exact : (s : State) (nodes : List ℕ) → meets s g.assumes ≡ true → (c : Check) (passes : Bool) (at : State) →
      RunComes s nodes c passes at g ↔ PathComes s nodes c passes at h
  -- where the state does not meet what is assumed, no path's facts hold
  pub assumed : (s : State) (nodes : List ℕ) (c : Check) (passes : Bool) (at : State) → PathComes s nodes c passes at h → meets s g.assumes ≡ true

pub data Paired : List Segment → List SegmentPaths → Type 0 where
  none : Paired [] []
  one_more : {g : Segment} {gs : List Segment} {h : SegmentPaths} {hs : List SegmentPaths} → SameSegment g h → Paired gs hs → Paired (g ∷ gs) (h ∷ hs)

abbrev pub PathsExact : Type 0
PathsExact = (r : Routine) → Paired (segments r) (segment_paths r)
