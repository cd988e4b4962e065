-- The facts of a path and their formula: sound and complete.
use Prim.Native.Nat.{ℕ, zero, suc, ◌+◌, ◌-◌, ◌≤◌, ◌<◌}
use native.Mathlib.Omega.{arith}
use mathlib.Core.Path.{◌≡◌, refl, sym, ap, ◌∙◌, subst}
use mathlib.Core.Logic.{◌⊎◌, ⊎_elim}
use mathlib.Core.Bool.{Bool, true, false}
use mathlib.Core.List.Memᴰ
use mathlib.Core.List.{List, [], ◌∷◌, ◌++◌, Memᴰ}
use lib.Dec.{eqb, ltb}
use lib.ListN.{length, get_or}
use Rattle.logic.specs.Search.{from, all, flat_map, ◌and◌, ◌or◌}
use Rattle.logic.specs.Heap.{Node}
use Rattle.theory.proofs.Basics.Search.{bool_cases, and_left, and_right, and_intro, or_left, or_right, not_intro, from-mem, flat_map-mem}
use Rattle.theory.proofs.Basics.Compare.{eqb-true, eqb_intro, ltb-true, ltb_intro, cond-false}
use Rattle.routine_logic.specs.State.{State, null_node, IsState}
use Rattle.routine_logic.specs.Formulas.{same_truth}
use Rattle.cut_theory.specs.Versions.{cut}
use Rattle.cut_theory.specs.Trees.{read_tree}
use Rattle.cut_theory.proofs.Jumps.{IsCut}
use Rattle.cut_theory.proofs.Versions.{cut_stays}
use Rattle.path_theory.specs.Points.{nil, initial, given, read, Stores, Point, node_of, link_of, state_at}
use Rattle.path_theory.specs.Assignments.{count, Begins}
use Rattle.path_theory.specs.Paths.{Fact, says, gives, fact_holds}
use Rattle.path_theory.proofs.Assignments.{begins_count}
use Rattle.literal_theory.specs.Labels.{Label, named, chosen, after, labels_in, label_node, Plan, cut_label, cut_names}
use Rattle.literal_theory.specs.Forms.{Form, literals, names_of, meets_form}
use Rattle.literal_theory.specs.Heaps.{cut_node, cut_heap}
use Rattle.literal_theory.specs.Translation.{translate, reading, cut_form, cut_labels, fact_form, fact_forms, asked, Cut, betweens}
use Rattle.literal_theory.proofs.Nodes.{AllNodes, point_heap}
use Rattle.literal_theory.proofs.Witnesses.{witness, witness_node}
use Rattle.literal_theory.proofs.Atoms.{Ground, olds, read_holds, tree_test}
use Rattle.literal_theory.proofs.Translation.{chosen_suits, translate_sound, translate_complete}
use Rattle.literal_theory.proofs.Names.{Each, each_append, Only, only_each, choices_each, translate_only}
use Rattle.literal_theory.proofs.OnPath.{OnPath, OwnLabel, OwnPoint, OwnPlan, label_parts, cuts_own, term_own, marks-own}

-- a member by its number
mem-number : {A : Type 0} (d x : A) (xs : List A) → Memᴰ x xs → (k : ℕ) × (k < length xs) × (get_or xs k d ≡ x)
mem-number d x [] m = elim m [ ]
mem-number d x (y ∷ xs) (Memᴰ.head e) = (0, omega arith, sym e)
mem-number d x (y ∷ xs) (Memᴰ.tail m) = let r = mem-number d x xs m in (suc r.0, omega (arith, r.1), r.2)

module _ (P : Plan) where
  -- betweens are cut, by label
  abbrev pub CutHere : Cut → Type 0
  CutHere c = Memᴰ c.label (P.further c.link)

  -- facts of a path with this plan, numbered from k
  unfoldable pub Planned : ℕ → List Fact → Type 0
  Planned k [] = Unit
  Planned k (says b p f ∷ fs) = OwnPoint P p × Each CutHere (betweens b p (chosen k) [] f) × Planned (suc k) fs
  Planned k (gives n ∷ fs) = (n < P.havocs) × Planned (suc k) fs

  cut_here : (node : Label → ℕ) (c : Cut) → CutHere c → IsCut (cut_node P node c.link) (cut_names P c.link).number (node c.label)
  unfolding cut_names cut_label
  cut_here node c m =
      let n : ℕ = count (P.stores c.link) in
      let r = mem-number (named nil) c.label (P.further c.link) m in (
        n + r.0,
        omega (arith, r.1),
        ap node (cond-false _ _ (later n r.0) ∙ ap (λ (k : ℕ). get_or (P.further c.link) k (named nil)) (behind n r.0) ∙ r.2),
      )
    where
      later : (n k : ℕ) → ltb (n + k) n ≡ false
      later n k = ⊎_elim (λ e. let l = ltb-true (n + k) n e in absurd (omega (arith, l))) (λ e. e) (bool_cases (ltb (n + k) n))

      behind : (n k : ℕ) → (n + k) - n ≡ k
      behind n k = omega arith

  pub point_below : (p : Point) → OwnPoint P p → (i : ℕ) → count (p.stores i) ≤ (cut_names P i).number
  unfolding cut_names
  point_below p own i = let l = begins_count (own.begins i) in omega (arith, l)

  -- every name of the facts' formula is of the path
  pub facts_own : OwnPlan P → (k : ℕ) (fs : List Fact) → Planned k fs → Only (OwnLabel P) (fact_forms P k fs)
  unfolding fact_forms fact_form Planned Only OwnLabel
  facts_own plan k [] h = tt
  facts_own plan k (says b p f ∷ fs) h = (
    translate_only (OwnLabel P) P p (cuts_own P plan) (point_below p h.0) (marks-own P p h.0) b (chosen k) [] f (λ t m. term_own P p h.0 t)
        (choices_each (OwnLabel P) b (chosen k) f (λ d. tt))
        (λ x m. absurd (Memᴰ.not-nil m)),
    facts_own plan (suc k) fs h.2,
  )
  facts_own plan k (gives n ∷ fs) h = (tt, facts_own plan (suc k) fs h.1)

  -- and so is all that is asked for
  pub asked-own : OwnPlan P → (links : List ℕ) (f : Form Label) → Only (OwnLabel P) f → Each (OwnLabel P) (asked P links f)
  unfolding asked
  asked-own plan links f only l m =
      let r = flat_map-mem labels_in l (names_of f ++ flat_map (cut_labels P) links) m in
      label_parts P r.0 (each_append (OwnLabel P) (names_of f) _ (only_each (OwnLabel P) f only) cut_labels_lem r.0 r.1) l r.2
    where
      cut_labels_lem : Each (OwnLabel P) (flat_map (cut_labels P) links)
      cut_labels_lem x m =
          unfold cut_labels in
          let r = flat_map-mem (cut_labels P) x links m in
          let q = flat_map-mem (λ k. (cut_names P r.0).cut k ∷ (cut_names P r.0).value k ∷ (cut_names P r.0).old k ∷ []) x (from (cut_names P r.0).number 0) r.2 in
          let l = from-mem (cut_names P r.0).number 0 q.0 q.1 in
          let own = cuts_own P plan r.0 q.0 (omega (arith, l.1)) in
          ⊎_elim
          (λ e. subst (OwnLabel P) (sym e) own.0)
          (λ m'. ⊎_elim
          (λ e. subst (OwnLabel P) (sym e) own.1)
          (λ m''. ⊎_elim (λ e. subst (OwnLabel P) (sym e) own.2) (λ z. absurd (Memᴰ.not-nil z)) (Memᴰ.cases_cons m''))
          (Memᴰ.cases_cons m'))
          (Memᴰ.cases_cons q.2)

-- The nodes at which the `forall`s of a fact fail
module _ (s : State) (nodes : List ℕ) where
  unfoldable pub pick_of : Fact → List Bool → ℕ
  pick_of (says b p f) d = witness (state_at s nodes p) [] f d
  pick_of (gives n) d = null_node

  unfoldable pub picks_of : List Fact → ℕ → List Bool → ℕ
  picks_of [] k d = null_node
  picks_of (f ∷ fs) zero d = pick_of f d
  picks_of (f ∷ fs) (suc k) d = picks_of fs k d

  module _ (is : IsState s) (all_nodes : AllNodes s nodes) where
    pick_node : (f : Fact) (d : List Bool) → Node s (pick_of f d)
    unfolding pick_of state_at
    pick_node (says b p f) d = witness_node (state_at s nodes p) (point_heap s is nodes all_nodes p) [] f d
    pick_node (gives n) d = (omega arith, is.is_heap.nonempty)

    pub picks_nodes : (fs : List Fact) (k : ℕ) (d : List Bool) → Node s (picks_of fs k d)
    unfolding picks_of
    picks_nodes [] k d = (omega arith, is.is_heap.nonempty)
    picks_nodes (f ∷ fs) zero d = pick_node f d
    picks_nodes (f ∷ fs) (suc k) d = picks_nodes fs k d

-- In a state, labels standing for their own nodes
module _ (s : State) (nodes : List ℕ) (picks : ℕ → List Bool → ℕ) (ground : Ground s nodes picks) (P : Plan) (names : ℕ → ℕ) (name_nodes : (n : ℕ) → Node s (names n)) where
  abbrev label : Label → ℕ
  label = label_node s nodes picks

  abbrev met : Form Label → Bool
  met = meets_form (cut_heap P label s names) s nodes label

  pub facts_sound : (k : ℕ) (fs : List Fact) → Planned P k fs → ((n : ℕ) (d : List Bool) → picks (k + n) d ≡ picks_of s nodes fs n d) →
      all (fact_holds s nodes) fs ≡ true → met (fact_forms P k fs) ≡ true
  unfolding fact_forms fact_form Planned fact_holds all meets_form picks_of pick_of label_node
  facts_sound k [] planned chose h = refl
  facts_sound k (says b p f ∷ fs) planned chose h =
      and_intro
      (translate_sound s nodes picks ground P names name_nodes p planned.0.begins b (chosen k) [] [] f refl (λ c m. cut_here P label c (planned.1 c m))
      (chosen_suits s nodes picks ground P names name_nodes p planned.0.begins b (chosen k) [] f
      (λ d. ap (λ (n : ℕ). picks n d) (let e : k ≡ k + 0 = omega arith in e) ∙ chose 0 d)) (and_left _ _ h))
      (facts_sound (suc k) fs planned.2 (λ n d. ap (λ (m : ℕ). picks m d) (let e : suc k + n ≡ k + suc n = omega arith in e) ∙ chose (suc n) d)
      (and_right (fact_holds s nodes (says b p f)) _ h))
  facts_sound k (gives n ∷ fs) planned chose h =
      and_intro refl
      (facts_sound (suc k) fs planned.1 (λ m d. ap (λ (j : ℕ). picks j d) (let e : suc k + m ≡ k + suc m = omega arith in e) ∙ chose (suc m) d)
      (and_right (fact_holds s nodes (gives n)) _ h))

  pub facts_complete : (k : ℕ) (fs : List Fact) → Planned P k fs → P.havocs ≤ length nodes → met (fact_forms P k fs) ≡ true → all (fact_holds s nodes) fs ≡ true
  unfolding fact_forms fact_form Planned fact_holds all meets_form
  facts_complete k [] planned enough h = refl
  facts_complete k (says b p f ∷ fs) planned enough h =
      and_intro
      (translate_complete s nodes picks ground P names name_nodes p planned.0.begins b (chosen k) [] f (λ c m. cut_here P label c (planned.1 c m)) (and_left _ _ h))
      (facts_complete (suc k) fs planned.2 enough (and_right (met (translate P b p (chosen k) [] f)) _ h))
  facts_complete k (gives n ∷ fs) planned enough h =
      and_intro (ltb_intro (let l : n < length nodes = omega (arith, planned.0, enough) in l)) (facts_complete (suc k) fs planned.1 enough (and_right true _ h))

  read-met : (i : ℕ) (w : Stores) (a r : Label) → Begins w (P.stores i) → link_of s nodes i w (label a) ≡ label r →
      met (literals true i 0 (read_tree (cut_names P i) (count w) a r)) ≡ true
  unfolding same_truth
  read-met i w a r h e =
      let x = read_holds s nodes picks ground P (s.field 0) i w h a r in
      tree_test s nodes picks ground P names name_nodes true i 0 (read_tree (cut_names P i) (count w) a r) true (λ z. refl, λ z. x.1 e)

  -- readings hold
  pub reading_sound : (l : Label) → OwnLabel P l → met (reading P l) ≡ true
  unfolding reading OwnLabel OnPath meets_form
  reading_sound (named nil) own = refl
  reading_sound (named (initial x)) own = refl
  reading_sound (named (given k)) own = refl
  reading_sound (named (read i w a)) own = read-met i w (named a) (named (read i w a)) own.0 (unfold label_node node_of in refl)
  reading_sound (chosen k d) own = refl
  reading_sound (after i w l) own = read-met i w l (after i w l) own.0 (unfold label_node in refl)

  -- cuts lead to themselves, and NULL to NULL
  pub cut_sound : (i k : ℕ) → k < (cut_names P i).number → met (cut_form P i k) ≡ true
  unfolding cut_form meets_form cut_heap same_truth label_node node_of
  cut_sound i k l =
      let c : ℕ = cut_node P label i k in
      and_intro
      (eqb_intro (cut_stays (s.link i) (cut_node P label i) (cut_names P i).number c (k, l, refl)))
      (⊎_elim
      (λ e. or_right _ (eqb_intro (olds s nodes picks ground P i k ∙ ap (s.link i) (eqb-true c null_node e) ∙ ground.is_state.null_link i)))
      (λ e. or_left _ (not_intro e))
      (bool_cases (eqb c null_node)))
