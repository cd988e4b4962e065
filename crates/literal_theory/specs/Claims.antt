-- What is claimed of the formula of a case (03, "A way"): its heaps are the cut heaps of the states from which the path's facts hold.
use Rattle.std.specs.Prelude.{ℕ, suc, ◌≡◌, ◌⊎◌, Bool, true, false}
use mathlib.Core.List.{List, [], ◌∷◌, Memᴰ}
use Rattle.logic.specs.Heap.{Node, IsHeap}
use Rattle.routine_logic.specs.Syntax.{Formula, Routine}
use Rattle.routine_logic.specs.State.{State, null_node}
use Rattle.routine_logic.specs.Runs.{Check}
use Rattle.routine_logic.specs.Answers.{Run, events, Happens}
use Rattle.path_theory.specs.Points.{nil, unmarked, Point}
use Rattle.path_theory.specs.Paths.{Fact, says, Case, SegmentPaths, segment_paths, start_trail}
use Rattle.literal_theory.specs.Labels.{Label, named, chosen, cut_names}
use Rattle.literal_theory.specs.Forms.{Form, names_of, meets_form}
use Rattle.literal_theory.specs.Numbers.{term_of, table_of, numbered, label_at}
use Rattle.literal_theory.specs.Heaps.{start_state, given_nodes}
use Rattle.literal_theory.specs.Translation.{Places, unlinked, translate, plan_of, case_form, case_labels, tidy, Kept, kept_in}

-- no link but these is cut on the way to a case
abbrev pub CutWithin : List ℕ → Case → Type 0
CutWithin links x = (i : ℕ) → Memᴰ i links ⊎ ((cut_names (plan_of x) i).number ≡ 0)

-- a heap, with nodes for labels, that meets the formula of a case; what is kept is looked up in the state that it gives back
pub record MeetsCase (flags links : List ℕ) (x : Case) (g : State) (node : Label → ℕ) : Type 0 where
  pub is_heap : IsHeap g
  pub null_link : (i : ℕ) → g.link i null_node ≡ null_node
  -- of a flag that no literal speaks of
  pub other_flag : (j : ℕ) → Memᴰ j flags ⊎ (g.field j null_node ≡ false)
  pub nodes : (l : Label) → Node g (node l)
  pub null : node (named nil) ≡ null_node
  pub met : meets_form g (start_state (plan_of x) node g) (given_nodes (plan_of x) node) node (case_form flags links x) ≡ true

-- a case that a path of some segment of the routine comes to
pub record CaseOf (r : Routine) (x : Case) : Type 0 where
  pub paths : SegmentPaths
  pub of_routine : Memᴰ paths (segment_paths r)
  pub comes : Memᴰ x (paths.follow (start_trail paths.assumes))

pub record LiteralsExact : Type 0 where
  -- every run that comes to a check gives a heap for the formula of a case of it, which gives the run's state back
  pub sound : (r : Routine) (run : Run r) (c : Check) (passes : Bool) → Happens (events run) c passes →
      (x : Case) × CaseOf r x × (x.check ≡ c) × (x.passes ≡ passes) ×
      ((flags links : List ℕ) → CutWithin links x → (g : State) × (node : Label → ℕ) × MeetsCase flags links x g node × (start_state (plan_of x) node g ≡ run.now.state))
  -- every heap for the formula of a case gives a run that comes to its check, from the state that the heap gives back
  pub complete : (r : Routine) (x : Case) → CaseOf r x → (flags links : List ℕ) → CutWithin links x → (g : State) (node : Label → ℕ) → MeetsCase flags links x g node →
      (run : Run r) × Happens (events run) x.check x.passes × (run.now.state ≡ start_state (plan_of x) node g)

-- What a search comes to from the facts of a case, taking names from a list: the facts' formulas, and instances of the `forall`s that are kept
pub data FactAt : ℕ → Fact → List Fact → Type 0 where
  first : {f : Fact} {fs : List Fact} → FactAt 0 f (f ∷ fs)
  later : {k : ℕ} {f g : Fact} {fs : List Fact} → FactAt k f fs → FactAt (suc k) f (g ∷ fs)

pub data Arises (x : Case) (N : List Label) : Form Label → Type 0 where
  fact : {k : ℕ} {b : Bool} {p : Point} {f : Formula} → FactAt k (says b p f) x.trail.facts → Arises x N (translate (plan_of x) b p (chosen k) [] f)
  instance_of : {f : Form Label} (κ : Kept) (name : Places) (l : Label) → Arises x N f → Memᴰ κ (kept_in f) → Memᴰ l N →
      Arises x N (translate (plan_of x) true κ.point name (l ∷ κ.names) κ.body)

-- no flag but these is assigned where a fact is said
abbrev pub MarkedWithin : List ℕ → List Fact → Type 0
MarkedWithin flags fs = (b : Bool) (p : Point) (f : Formula) → Memᴰ (says b p f) fs → (j : ℕ) → Memᴰ j flags ⊎ (p.marks j ≡ unmarked)

-- bound names bear no link, and there is no alternation
abbrev pub Unlinked : List Fact → Type 0
Unlinked fs = (b : Bool) (p : Point) (f : Formula) → Memᴰ (says b p f) fs → (unlinked f ≡ true) × (tidy b f ≡ true)

-- 5, as far as names go: "With no `forall` whose bound name bears a link", instances bring no new names
pub record NamesFinite : Type 0 where
  pub closed : (r : Routine) (x : Case) → CaseOf r x → (flags links : List ℕ) → CutWithin links x → MarkedWithin flags x.trail.facts → Unlinked x.trail.facts →
      (f : Form Label) → Arises x (case_labels flags links x) f → (l : Label) → Memᴰ l (names_of f) → Memᴰ l (case_labels flags links x)

-- names as numbers: a heap's variables are the names by term number, NULL being term 1
pub record NumbersExact : Type 0 where
  pub sound : (flags links : List ℕ) (x : Case) (g : State) (node : Label → ℕ) → MeetsCase flags links x g node →
      meets_form g (start_state (plan_of x) node g) (given_nodes (plan_of x) node) (λ n. node (label_at (table_of (case_form flags links x)) n)) (numbered flags links x) ≡ true
  pub complete : (flags links : List ℕ) (x : Case) (g : State) → IsHeap g → ((i : ℕ) → g.link i null_node ≡ null_node) →
      ((j : ℕ) → Memᴰ j flags ⊎ (g.field j null_node ≡ false)) → g.variable 1 ≡ null_node →
      let node : Label → ℕ = λ l. g.variable (term_of (table_of (case_form flags links x)) l) in
      meets_form g (start_state (plan_of x) node g) (given_nodes (plan_of x) node) g.variable (numbered flags links x) ≡ true → MeetsCase flags links x g node
