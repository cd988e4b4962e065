-- Every run that comes to a check gives a heap for the formula of a case, and every heap of such a formula gives such a run.
use Prim.Native.Nat.{ℕ, suc, ◌+◌, ◌<◌}
use native.Mathlib.Omega.{arith}
use mathlib.Core.Path.{◌≡◌, refl, sym, ap, ◌∙◌, subst, fun_ext}
use mathlib.Core.Logic.{⊎_elim, inr}
use mathlib.Core.Bool.{Bool, true, false}
use mathlib.Core.List.Memᴰ
use mathlib.Core.List.{List, [], ◌∷◌, map, Memᴰ}
use lib.Dec.{eqb}
use lib.ListN.{length, get_or}
use Rattle.logic.specs.Search.{from, select, all}
use Rattle.logic.specs.Heap.{Node}
use Rattle.theory.proofs.Basics.Search.{and_left, and_right, and_intro, all_true, all_intro, from-mem, select-mem, select_intro, map-mem, map_intro}
use Rattle.theory.proofs.Basics.Compare.{eqb_self, ltb_intro}
use Rattle.routine_logic.specs.Syntax.{Routine}
use Rattle.routine_logic.specs.State.{State, null_node, IsState}
use Rattle.routine_logic.specs.Formulas.{holds, same_truth}
use Rattle.routine_logic.specs.Runs.{Check, Segment, segments}
use Rattle.routine_logic.specs.Answers.{Starts, Run, events, Happens}
use Rattle.cut_theory.specs.Versions.{version, cut}
use Rattle.cut_theory.proofs.Versions.{cut-decided, cut_stays, uncut_goes}
use Rattle.path_theory.specs.Points.{nil, node_of, state_at}
use Rattle.path_theory.specs.Paths.{Fact, says, gives, fact_holds, Case, SegmentPaths, segment_paths}
use Rattle.path_theory.specs.Claims.{PathComes, SameSegment, Paired, one_more, none}
use Rattle.path_theory.proofs.Claims.{paths_exact}
use Rattle.literal_theory.specs.Labels.{Label, named, chosen, label_node, Plan, cut_names}
use Rattle.literal_theory.specs.Forms.{conjunction, meets_form}
use Rattle.literal_theory.specs.Heaps.{cut_node, cut_heap, start_state, given_nodes}
use Rattle.literal_theory.specs.Translation.{Cut, betweens, fact_betweens, fact_forms, whole, plan_of, null_flag, case_form}
use Rattle.literal_theory.specs.Claims.{CutWithin, MeetsCase, CaseOf, LiteralsExact}
use Rattle.literal_theory.proofs.Nodes.{AllNodes, given-node}
use Rattle.literal_theory.proofs.Literals.{same_truth_lem, conjunction_met, conjunction_intro}
use Rattle.literal_theory.proofs.Restoring.{cut_restored}
use Rattle.literal_theory.proofs.Atoms.{Ground, label-node, olds, cut_is_heap}
use Rattle.literal_theory.proofs.Names.{Each, each_append, each_left, each_right, map_alike}
use Rattle.literal_theory.proofs.OnPath.{OwnLabel, OwnStores, OwnPlan, betweens-own}
use Rattle.literal_theory.proofs.Alike.{state_alike}
use Rattle.literal_theory.proofs.Readings.{get_d_from}
use Rattle.literal_theory.proofs.Facts.{CutHere, Planned, picks_of}
use Rattle.literal_theory.proofs.Cases.{map-length, own_ground, whole_sound, whole_complete, whole_state, whole-nodes}
use Rattle.literal_theory.proofs.Ordered.{Longer, plan_at, OwnFact, Ordered, fact_longer, stores-longer, cases_ordered}

-- The plan of a case that is in order

same_plan : (x : Case) → Longer (plan_at x.trail.point) (plan_of x)
unfolding plan_of
same_plan x = record { stores = λ i w h. h; havocs = omega arith }

pub fact_own : (x : Case) (f : Fact) → OwnFact (plan_at x.trail.point) f → OwnFact (plan_of x) f
fact_own x f h = fact_longer (plan_at x.trail.point) (plan_of x) (same_plan x) f h

abbrev CutOwn : Plan → Cut → Type 0
CutOwn P c = OwnLabel P c.label

fact_cuts : (P : Plan) (k : ℕ) (fs : List Fact) → Each (OwnFact P) fs → Each (CutOwn P) (fact_betweens k fs)
unfolding fact_betweens OwnFact OwnLabel
fact_cuts P k [] h = λ c m. absurd (Memᴰ.not-nil m)
fact_cuts P k (says b p f ∷ fs) h =
    each_append (CutOwn P) (betweens b p (chosen k) [] f) (fact_betweens (suc k) fs)
    (betweens-own P p (h (says b p f) (Memᴰ.head refl)) b (chosen k) [] f (λ d. tt) (λ x m. absurd (Memᴰ.not-nil m)))
    (fact_cuts P (suc k) fs (λ g m. h g (Memᴰ.tail m)))
fact_cuts P k (gives n ∷ fs) h = fact_cuts P (suc k) fs (λ g m. h g (Memᴰ.tail m))

plan_own : (x : Case) → Ordered x.trail → OwnPlan (plan_of x)
plan_own x o = record { stores = own-stores; further = own-further }
  where
    own-stores : (i : ℕ) → OwnStores (plan_of x) ((plan_of x).stores i)
    own-stores i = unfold plan_of in stores-longer (plan_at x.trail.point) (plan_of x) (same_plan x) (x.trail.point.stores i) (o.point.stores i)

    own-further : (i : ℕ) → Each (OwnLabel (plan_of x)) ((plan_of x).further i)
    own-further i l m =
        unfold plan_of in
        let cuts : List Cut = fact_betweens 0 x.trail.facts in
        let r = map-mem (λ (c : Cut). c.label) l (select (λ (c : Cut). eqb c.link i) cuts) m in
        subst (OwnLabel (plan_of x)) (sym r.2)
        (fact_cuts (plan_of x) 0 x.trail.facts (λ f m'. fact_own x f (o.facts f m')) r.0 (select-mem (λ (c : Cut). eqb c.link i) r.0 cuts r.1).0)

-- each between of the facts is cut
cuts_here : (x : Case) → Each (CutHere (plan_of x)) (fact_betweens 0 x.trail.facts)
unfolding plan_of
cuts_here x c m = map_intro (λ (d : Cut). d.label) c (select_intro (λ (d : Cut). eqb d.link c.link) c m (eqb_self c.link))

planned_from : (P : Plan) (k : ℕ) (fs : List Fact) → Each (OwnFact P) fs → Each (CutHere P) (fact_betweens k fs) → Planned P k fs
unfolding Planned fact_betweens OwnFact
planned_from P k [] h c = tt
planned_from P k (says b p f ∷ fs) h c = (
  h (says b p f) (Memᴰ.head refl),
  each_left (CutHere P) (betweens b p (chosen k) [] f) (fact_betweens (suc k) fs) c,
  planned_from P (suc k) fs (λ g m. h g (Memᴰ.tail m)) (each_right (CutHere P) (betweens b p (chosen k) [] f) (fact_betweens (suc k) fs) c),
)
planned_from P k (gives n ∷ fs) h c = (h (gives n) (Memᴰ.head refl), planned_from P (suc k) fs (λ g m. h g (Memᴰ.tail m)) c)

planned : (x : Case) → Ordered x.trail → Planned (plan_of x) 0 x.trail.facts
planned x o = planned_from (plan_of x) 0 x.trail.facts (λ f m. fact_own x f (o.facts f m)) (cuts_here x)

-- as many nodes as the path has met havocs
module _ (P : Plan) (s : State) (nodes : List ℕ) where
  abbrev needed : List ℕ
  needed = map (λ k. get_or nodes k null_node) (from P.havocs 0)

  needed_at : (k : ℕ) → k < P.havocs → get_or needed k null_node ≡ get_or nodes k null_node
  needed_at k l = get_d_from (λ n. get_or nodes n null_node) P.havocs 0 k null_node l ∙ ap (λ (n : ℕ). get_or nodes n null_node) (let e : 0 + k ≡ k = omega arith in e)

  needed-holds : (f : Fact) → OwnFact P f → fact_holds s nodes f ≡ true → fact_holds s needed f ≡ true
  unfolding fact_holds OwnFact
  needed-holds (says b p f) own h =
      ap (λ (x : State). same_truth b (holds x [] f)) (state_alike P s needed nodes needed_at p own) ∙ h
  needed-holds (gives n) own h = let e = map-length (λ k. get_or nodes k null_node) P.havocs 0 in ltb_intro (let l : n < length needed = omega (arith, own, e) in l)

  needed-all : (fs : List Fact) → Each (OwnFact P) fs → all (fact_holds s nodes) fs ≡ true → all (fact_holds s needed) fs ≡ true
  needed-all fs own h = all_intro (fact_holds s needed) fs (λ f m. needed-holds f (own f m) (all_true (fact_holds s nodes) f h m))

  needed-nodes : IsState s → AllNodes s nodes → AllNodes s needed
  needed-nodes is h v m = let r = map-mem (λ k. get_or nodes k null_node) v (from P.havocs 0) m in subst (Node s) (sym r.2) (given-node s is nodes h nodes h r.0)

-- From a state at which the facts of a case hold
module _ (x : Case) (o : Ordered x.trail) (flags links : List ℕ) (s : State) (is : IsState s) (nodes : List ℕ) (all_nodes : AllNodes s nodes)
    (hold : all (fact_holds s nodes) x.trail.facts ≡ true) where
  abbrev P : Plan
  P = plan_of x

  abbrev vs : List ℕ
  vs = needed P s nodes

  hold' : all (fact_holds s vs) x.trail.facts ≡ true
  hold' = needed-all P s nodes x.trail.facts (λ f m. fact_own x f (o.facts f m)) hold

  nodes' : AllNodes s vs
  nodes' = needed-nodes P s nodes is all_nodes

  label : Label → ℕ
  label = label_node s vs (picks_of s vs x.trail.facts)

  ground : Ground s vs (picks_of s vs x.trail.facts)
  ground = own_ground P (plan_own x o) links x.trail.facts (planned x o) s is vs nodes' hold'

  heap : State
  heap = cut_heap P label s s.variable

  same_start : start_state P label heap ≡ s
  unfolding heap label cut_heap start_state label_node node_of
  same_start =
      ap (λ (f : ℕ → ℕ → ℕ). record { size = s.size; link = f; field = s.field; variable = s.variable })
      (fun_ext (λ i. ap (λ (w : ℕ → ℕ). version (cut (s.link i) (cut_node P label i) (cut_names P i).number) (cut_node P label i) w (cut_names P i).number)
      (fun_ext (λ k. olds s vs (picks_of s vs x.trail.facts) ground P i k))
      ∙ cut_restored (s.link i) (cut_node P label i) (cut_names P i).number))

  same_given : given_nodes P label ≡ vs
  unfolding label given_nodes label_node node_of
  same_given =
      map_alike (λ k. get_or vs k null_node) (λ k. get_or nodes k null_node) (from P.havocs 0) (λ k m.
      let l = from-mem P.havocs 0 k m in needed_at P s nodes k (omega (arith, l.1)))

  heap-is-state : IsState heap
  unfolding heap cut_heap label
  heap-is-state =
      record {
        is_heap = cut_is_heap s vs (picks_of s vs x.trail.facts) ground P s.variable is.is_heap.variable_node;
        null_link = λ i. ⊎_elim
            (λ z. cut_stays (s.link i) (cut_node P label i) (cut_names P i).number null_node z)
            (λ z. uncut_goes (s.link i) (cut_node P label i) (cut_names P i).number null_node z ∙ is.null_link i)
            (cut-decided (cut_node P label i) (cut_names P i).number null_node);
        null_flag_lem = is.null_flag_lem;
      }

  -- NULL's flags are 0
  flags_sound : (g t : State) (vs : List ℕ) (node : Label → ℕ) → node (named nil) ≡ null_node → ((j : ℕ) → g.field j null_node ≡ false) →
      meets_form g t vs node (conjunction (map null_flag flags)) ≡ true
  flags_sound g t vs node null zero =
      conjunction_intro g t vs node (map null_flag flags) (λ f m.
      let r = map-mem null_flag f flags m in
      ap (meets_form g t vs node) r.2 ∙ flag_zero r.0)
    where
      flag_zero : (j : ℕ) → meets_form g t vs node (null_flag j) ≡ true
      flag_zero j = unfold null_flag meets_form in (same_truth_lem false _).1 (ap (g.field j) null ∙ zero j)

  case_sound : MeetsCase flags links x heap label
  case_sound =
      record {
        is_heap = heap-is-state.is_heap;
        null_link = heap-is-state.null_link;
        other_flag = λ j. inr (heap-is-state.null_flag_lem j);
        nodes = λ l. unfold heap cut_heap label in label-node s vs (picks_of s vs x.trail.facts) ground P l;
        null = own-null;
        met =
            ap (λ (z : State). meets_form heap z (given_nodes P label) label (case_form flags links x)) same_start
            ∙ ap (λ (z : List ℕ). meets_form heap s z label (case_form flags links x)) same_given
            ∙ (unfold case_form meets_form in and_intro (flags_sound heap s vs label own-null heap-is-state.null_flag_lem) whole-met);
      }
    where
      own-null : label (named nil) ≡ null_node
      own-null = unfold label label_node node_of in refl

      whole-met : meets_form heap s vs label (whole P links (fact_forms P 0 x.trail.facts)) ≡ true
      whole-met =
          unfold heap label in whole_sound P (plan_own x o) links x.trail.facts (planned x o) s is vs nodes' hold' s.variable is.is_heap.variable_node

-- A heap that meets the formula of a case: NULL's flags are 0 in it, and it meets the facts' part
module _ (flags links : List ℕ) (x : Case) (g : State) (node : Label → ℕ) (m : MeetsCase flags links x g node) where
  case_met : meets_form g (start_state (plan_of x) node g) (given_nodes (plan_of x) node) node (whole (plan_of x) links (fact_forms (plan_of x) 0 x.trail.facts)) ≡ true
  case_met = and_right (meets_form g (start_state (plan_of x) node g) (given_nodes (plan_of x) node) node (conjunction (map null_flag flags))) _ (unfold case_form meets_form in m.met)

  case_is-state : IsState g
  case_is-state = record { is_heap = m.is_heap; null_link = m.null_link; null_flag_lem = λ j. ⊎_elim (said j) (λ e. e) (m.other_flag j) }
    where
      said : (j : ℕ) → Memᴰ j flags → g.field j null_node ≡ false
      said j mem =
          unfold case_form meets_form null_flag in
          ap (g.field j) (sym m.null)
          ∙ (same_truth_lem false _).0
          (conjunction_met g (start_state (plan_of x) node g) (given_nodes (plan_of x) node) node (map null_flag flags) (and_left _ _ m.met) (null_flag j) (map_intro null_flag j mem))

-- Segments and their paths
paired_left : (gs : List Segment) (hs : List SegmentPaths) → Paired gs hs → (g : Segment) → Memᴰ g gs → (h : SegmentPaths) × Memᴰ h hs × SameSegment g h
paired_left _ _ none g m = elim m [ ]
paired_left gs hs (one_more {h = h} x p) g (Memᴰ.head e) = (h, Memᴰ.head refl, subst (λ (z : Segment). SameSegment z h) (sym e) x)
paired_left gs hs (one_more x p) g (Memᴰ.tail m) = let r = paired_left _ _ p g m in (r.0, Memᴰ.tail r.1, r.2)

paired_right : (gs : List Segment) (hs : List SegmentPaths) → Paired gs hs → (h : SegmentPaths) → Memᴰ h hs → (g : Segment) × Memᴰ g gs × SameSegment g h
paired_right _ _ none h m = elim m [ ]
paired_right gs hs (one_more {g = g} x p) h (Memᴰ.head e) = (g, Memᴰ.head refl, subst (λ (z : SegmentPaths). SameSegment g z) (sym e) x)
paired_right gs hs (one_more x p) h (Memᴰ.tail m) = let r = paired_right _ _ p h m in (r.0, Memᴰ.tail r.1, r.2)

pub literals_exact : LiteralsExact
literals_exact = record { sound = sound; complete = complete }
  where
    sound : (r : Routine) (run : Run r) (c : Check) (passes : Bool) → Happens (events run) c passes →
        (x : Case) × CaseOf r x × (x.check ≡ c) × (x.passes ≡ passes) ×
        ((flags links : List ℕ) → CutWithin links x → (g : State) × (node : Label → ℕ) × MeetsCase flags links x g node × (start_state (plan_of x) node g ≡ run.now.state))
    sound r run c passes h =
        let p = paired_left (segments r) (segment_paths r) (paths_exact r) run.segment run.of_routine in
        let y = (p.2.exact run.now.state run.now.nodes run.starts.met c passes h.state).0 (h.line, h.among) in
        let o = cases_ordered r p.0 p.1 y.0 y.1 in (
          y.0,
          record { paths = p.0; of_routine = p.1; comes = y.1 },
          y.2.same_check,
          y.2.same_value,
          λ flags links w. (
            _,
            _,
            case_sound y.0 o flags links run.now.state run.starts.is_state run.now.nodes run.starts.nodes y.2.facts_hold,
            same_start y.0 o flags links run.now.state run.starts.is_state run.now.nodes run.starts.nodes y.2.facts_hold,
          ),
        )

    complete : (r : Routine) (x : Case) → CaseOf r x → (flags links : List ℕ) → CutWithin links x → (g : State) (node : Label → ℕ) → MeetsCase flags links x g node →
        (run : Run r) × Happens (events run) x.check x.passes × (run.now.state ≡ start_state (plan_of x) node g)
    complete r x of flags links within g node m =
        let P : Plan = plan_of x in
        let fs : List Fact = x.trail.facts in
        let o = cases_ordered r of.paths of.of_routine x of.comes in
        let s : State = start_state P node g in
        let vs : List ℕ = given_nodes P node in
        let met = case_met flags links x g node m in
        let is = case_is-state flags links x g node m in
        let holds = whole_complete P (plan_own x o) links fs (planned x o) within g node is m.nodes m.null met in
        let p = paired_right (segments r) (segment_paths r) (paths_exact r) of.paths of.of_routine in
        let comes : PathComes s vs x.check x.passes (state_at s vs x.trail.point) of.paths =
        (x, of.comes, record { same_check = refl; same_value = refl; facts_hold = holds; same_state = refl }) in
        let assumed = p.2.assumed s vs x.check x.passes _ comes in
        let e = (p.2.exact s vs assumed x.check x.passes _).1 comes in
        let starts : Starts p.0.assumes (record { state = s; nodes = vs }) =
        record {
          is_state = whole_state P (plan_own x o) links fs (planned x o) within g node is m.nodes m.null met;
          met = assumed;
          nodes = whole-nodes P (plan_own x o) links fs (planned x o) within g node is m.nodes m.null met;
        } in
        let run : Run r = record { segment = p.0; of_routine = p.1; now = record { state = s; nodes = vs }; starts = starts } in
        (run, record { line = e.0; state = _; among = e.1 }, refl)
