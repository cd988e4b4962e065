-- The formula of the facts of a path, with its readings and cuts: the heaps that meet it are the cut heaps of the states where the facts hold.
use Prim.Native.Nat.{ℕ, zero, suc, ◌+◌, ◌≤◌, ◌<◌}
use native.Mathlib.Omega.{arith}
use mathlib.Core.Path.{◌≡◌, refl, sym, ap, ◌∙◌, fun_ext}
use mathlib.Core.Logic.{◌⊎◌, ⊎_elim}
use mathlib.Core.Bool.{true}
use mathlib.Core.List.Memᴰ
use mathlib.Core.List.{List, [], ◌∷◌, map, Memᴰ}
use lib.Dec.{eqb}
use lib.ListN.{length}
use Rattle.logic.specs.Search.{from, all, flat_map, ◌and◌, ◌or◌}
use Rattle.logic.specs.Heap.{Node}
use Rattle.theory.proofs.Basics.Search.{and_left, and_right, and_intro, or_cases, not-true, true-false, from-mem, from_intro, flat_map-mem, flat_map_intro, map-mem, map_intro}
use Rattle.theory.proofs.Basics.Compare.{eqb-true, eqb_intro}
use Rattle.routine_logic.specs.State.{State, null_node, IsState}
use Rattle.routine_logic.specs.Formulas.{same_truth}
use Rattle.cut_theory.specs.Versions.{cut}
use Rattle.cut_theory.specs.Trees.{read_tree, Holds}
use Rattle.path_theory.specs.Points.{nil, initial, given, read, Stores, none}
use Rattle.path_theory.specs.Assignments.{count}
use Rattle.path_theory.specs.Paths.{Fact, fact_holds}
use Rattle.literal_theory.specs.Labels.{Label, named, chosen, after, read_label, names_in, labels_in, label_node, Plan, cut_label, cut_names}
use Rattle.literal_theory.specs.Forms.{Form, literals, conjunction, names_of, meets_form}
use Rattle.literal_theory.specs.Heaps.{cut_node, cut_heap, start_state, given_nodes}
use Rattle.literal_theory.specs.Translation.{reading, cut_form, cut_forms, cut_labels, fact_forms, asked, whole}
use Rattle.literal_theory.proofs.Nodes.{AllNodes}
use Rattle.literal_theory.proofs.Literals.{literals_plain, conjunction_met, conjunction_intro}
use Rattle.literal_theory.proofs.Restoring.{olds_agree}
use Rattle.literal_theory.proofs.Atoms.{Ground}
use Rattle.literal_theory.proofs.Names.{Each, Only, only_each, each_only, meets_alike}
use Rattle.literal_theory.proofs.OnPath.{OwnLabel, OwnPlan, cuts_own}
use Rattle.literal_theory.proofs.Readings.{cut_alike, Drawn, start, gave, picked, start-is_state, gave-nodes, cut_again, label_right}
use Rattle.literal_theory.proofs.Facts.{Planned, facts_own, asked-own, picks_of, picks_nodes, facts_sound, facts_complete, reading_sound, cut_sound}

-- a label is a part of itself
self_part : (l : Label) → Memᴰ l (labels_in l)
unfolding labels_in names_in
self_part (named nil) = Memᴰ.head refl
self_part (named (initial x)) = Memᴰ.head refl
self_part (named (given k)) = Memᴰ.head refl
self_part (named (read i w a)) = Memᴰ.head refl
self_part (chosen k d) = Memᴰ.head refl
self_part (after i w l) = Memᴰ.head refl

reading-read : (P : Plan) (i : ℕ) (w : Stores) (l : Label) → reading P (read_label i w l) ≡ literals true i 0 (read_tree (cut_names P i) (count w) l (read_label i w l))
unfolding reading read_label
reading-read P i w (named a) = refl
reading-read P i w (chosen k d) = refl
reading-read P i w (after j v l) = refl

pub map-length : (f : ℕ → ℕ) (n i : ℕ) → length (map f (from n i)) ≡ n
unfolding from
map-length f zero i = refl
map-length f (suc n) i = ap suc (map-length f n (suc i))

-- the three parts of a whole formula
module _ (g s : State) (nodes : List ℕ) (node : Label → ℕ) (P : Plan) (links : List ℕ) (f : Form Label) where
  abbrev met : Form Label → Type 0
  met h = meets_form g s nodes node h ≡ true

  abbrev AllMet : Type 0
  AllMet = met f × ((l : Label) → Memᴰ l (asked P links f) → met (reading P l)) × ((i k : ℕ) → Memᴰ i links → k < (cut_names P i).number → met (cut_form P i k))

  whole_parts : met (whole P links f) → AllMet
  unfolding whole meets_form cut_forms
  whole_parts h =
      let rest = and_right (meets_form g s nodes node f) _ h in (
        and_left _ _ h,
        λ l m. conjunction_met g s nodes node (map (reading P) (asked P links f)) (and_left _ _ rest) (reading P l) (map_intro (reading P) l m),
        λ i k m l. conjunction_met g s nodes node (flat_map (cut_forms P) links) (and_right (meets_form g s nodes node (conjunction (map (reading P) (asked P links f)))) _ rest) (cut_form P i k)
            (flat_map_intro (cut_forms P) i (cut_form P i k) m (map_intro (cut_form P i) k (from_intro (cut_names P i).number 0 k (omega arith) (omega (arith, l))))),
      )

  whole_intro : AllMet → met (whole P links f)
  unfolding whole meets_form cut_forms
  whole_intro h =
      and_intro h.0
      (and_intro
      (conjunction_intro g s nodes node (map (reading P) (asked P links f)) (λ x m. let r = map-mem (reading P) x (asked P links f) m in ap (meets_form g s nodes node) r.2 ∙ h.1 r.0 r.1))
      (conjunction_intro g s nodes node (flat_map (cut_forms P) links) (λ x m.
      let r = flat_map-mem (cut_forms P) x links m in
      let q = map-mem (cut_form P r.0) x (from (cut_names P r.0).number 0) r.2 in
      let l = from-mem (cut_names P r.0).number 0 q.0 q.1 in
      ap (meets_form g s nodes node) q.2 ∙ h.2 r.0 q.0 r.1 (omega (arith, l.1)))))

module _ (P : Plan) (plan : OwnPlan P) (links : List ℕ) (fs : List Fact) (planned : Planned P 0 fs) where
  abbrev facts_form : Form Label
  facts_form = fact_forms P 0 fs

  -- From a state: its cut heap meets the formula.
  module _ (s : State) (is : IsState s) (nodes : List ℕ) (all_nodes : AllNodes s nodes) (hold : all (fact_holds s nodes) fs ≡ true) where
    abbrev pub own_node : Label → ℕ
    own_node = label_node s nodes (picks_of s nodes fs)

    pub own_ground : Ground s nodes (picks_of s nodes fs)
    own_ground = record { is_state = is; all_nodes = all_nodes; chosen_nodes = picks_nodes s nodes is all_nodes fs }

    pub whole_sound : (names : ℕ → ℕ) (name_nodes : (n : ℕ) → Node s (names n)) →
        meets_form (cut_heap P own_node s names) s nodes own_node (whole P links facts_form) ≡ true
    whole_sound names name_nodes =
        whole_intro (cut_heap P own_node s names) s nodes own_node P links facts_form (
          facts_sound s nodes (picks_of s nodes fs) own_ground P names name_nodes 0 fs planned
              (λ n d. ap (λ (m : ℕ). picks_of s nodes fs m d) (let e : 0 + n ≡ n = omega arith in e)) hold,
          λ l m. reading_sound s nodes (picks_of s nodes fs) own_ground P names name_nodes l (asked-own P plan links facts_form (facts_own P plan 0 fs planned) l m),
          λ i k m l. cut_sound s nodes (picks_of s nodes fs) own_ground P names name_nodes i k l,
        )

  -- From a heap: the facts hold in the state that it gives back.
  module _ (quiet : (i : ℕ) → Memᴰ i links ⊎ ((cut_names P i).number ≡ 0)) (g : State) (node : Label → ℕ) (is : IsState g) (are-nodes : (l : Label) → Node g (node l))
      (null : node (named nil) ≡ null_node) (h : meets_form g (start P g node) (gave P g node) node (whole P links facts_form) ≡ true) where
    parts : AllMet g (start P g node) (gave P g node) node P links facts_form
    parts = whole_parts g (start P g node) (gave P g node) node P links facts_form h

    -- of each cut
    cut-met : (i k : ℕ) → k < (cut_names P i).number → meets_form g (start P g node) (gave P g node) node (cut_form P i k) ≡ true
    cut-met i k l = ⊎_elim (λ m. parts.2 i k m l) (λ e. absurd (omega (arith, l, e))) (quiet i)

    cut-asked : (i k : ℕ) (l : Label) → k < (cut_names P i).number → Memᴰ l ((cut_names P i).cut k ∷ (cut_names P i).value k ∷ (cut_names P i).old k ∷ []) →
        Each (λ x. meets_form g (start P g node) (gave P g node) node (reading P x) ≡ true) (labels_in l)
    unfolding asked cut_labels
    cut-asked i k l low m x m' =
        ⊎_elim
        (λ mem. parts.1 x (flat_map_intro labels_in l x
        (Memᴰ.append_right (names_of facts_form) (flat_map_intro (cut_labels P) i l mem
        (flat_map_intro (λ n. (cut_names P i).cut n ∷ (cut_names P i).value n ∷ (cut_names P i).old n ∷ []) k l (from_intro (cut_names P i).number 0 k (omega arith) (omega (arith, low))) m))) m'))
        (λ e. absurd (omega (arith, low, e)))
        (quiet i)

    old_read : (i k : ℕ) → k < (cut_names P i).number → Holds node (g.link i) (g.field 0) (read_tree (cut_names P i) 0 ((cut_names P i).cut k) ((cut_names P i).old k))
    unfolding cut_names count
    old_read i k l =
        (literals_plain g (start P g node) (gave P g node) node is.is_heap are-nodes i 0 _).0
        (sym (ap (meets_form g (start P g node) (gave P g node) node) (reading-read P i none (cut_label P i k)))
        ∙ cut-asked i k (read_label i none (cut_label P i k)) l (Memᴰ.tail (Memᴰ.tail (Memᴰ.head refl))) _ (self_part (read_label i none (cut_label P i k))))

    drawn : Drawn P g node
    unfolding cut_form meets_form same_truth
    drawn =
        record {
          is_state = is;
          nodes = are-nodes;
          null = null;
          restorable = λ i.
              record {
                loop = λ k l. eqb-true _ _ (and_left _ _ (cut-met i k l));
                agree = olds_agree node (g.link i) (g.field 0) (cut_names P i) (old_read i);
              };
          nulls = λ i k l e.
              ⊎_elim
              (λ x. absurd (true-false (eqb_intro (e ∙ sym null)) (not-true x)))
              (λ x. eqb-true _ _ x ∙ null)
              (or_cases _ _ (and_right (eqb (g.link i (cut_node P node i k)) (cut_node P node i k)) _ (cut-met i k l)));
        }

    abbrev own_labels : Label → ℕ
    own_labels = label_node (start P g node) (gave P g node) (picked P g node)

    -- labels stand for their own nodes in that state
    names_right : Only (λ l. node l ≡ own_labels l) facts_form
    unfolding asked
    names_right =
        each_only (λ l. node l ≡ own_labels l) facts_form (λ l m.
        label_right P g node drawn l (only_each (OwnLabel P) facts_form (facts_own P plan 0 fs planned) l m)
        (λ x m'. parts.1 x (flat_map_intro labels_in l x (Memᴰ.append_left (flat_map (cut_labels P) links) m) m')))

    cut_right : (i k : ℕ) → k < (cut_names P i).number → cut_node P own_labels i k ≡ cut_node P node i k
    cut_right i k l =
        sym (label_right P g node drawn ((cut_names P i).cut k) (cuts_own P plan i k l).0 (cut-asked i k ((cut_names P i).cut k) l (Memᴰ.head refl)))

    same_heap : cut_heap P own_labels (start P g node) g.variable ≡ g
    unfolding cut_heap start_state
    same_heap =
        ap (λ (f : ℕ → ℕ → ℕ). record { size = g.size; link = f; field = g.field; variable = g.variable })
        (fun_ext (λ i. cut_alike ((start P g node).link i) _ _ (cut_names P i).number (cut_right i) ∙ cut_again P g node drawn i))

    ground : Ground (start P g node) (gave P g node) (picked P g node)
    unfolding start_state
    ground = record { is_state = start-is_state P g node drawn; all_nodes = gave-nodes P g node drawn; chosen_nodes = λ k d. are-nodes (chosen k d) }

    enough : P.havocs ≤ length (gave P g node)
    unfolding given_nodes
    enough = let e = map-length (λ k. node (named (given k))) P.havocs 0 in omega (arith, e)

    pub whole_complete : all (fact_holds (start P g node) (gave P g node)) fs ≡ true
    unfolding start_state
    whole_complete =
        facts_complete (start P g node) (gave P g node) (picked P g node) ground P g.variable is.is_heap.variable_node 0 fs planned enough
        (ap (λ (x : State). meets_form x (start P g node) (gave P g node) own_labels facts_form) same_heap
        ∙ sym (meets_alike g (start P g node) (gave P g node) node own_labels facts_form names_right) ∙ parts.0)

    pub whole_state : IsState (start P g node)
    whole_state = start-is_state P g node drawn

    pub whole-nodes : AllNodes (start P g node) (gave P g node)
    whole-nodes = gave-nodes P g node drawn
