-- Instances of a `forall` that is assumed: they hold at every name; where every node has a name, that is enough; and where no bound name bears a link they bring
-- no new names.
use Prim.Native.Nat.{ℕ, zero, suc}
use mathlib.Core.Path.{◌≡◌, refl, sym, subst}
use mathlib.Core.Bool.{Bool, true, false≢true}
use mathlib.Core.List.{List, [], ◌∷◌, map, Memᴰ}
use lib.ListN.{get_or}
use Rattle.logic.specs.Heap.{Node}
use Rattle.theory.proofs.Basics.Search.{all_intro, map-mem}
use Rattle.routine_logic.specs.Syntax.{Base, null, variable, bound, Term, Formula}
use Rattle.routine_logic.specs.State.{State}
use Rattle.routine_logic.specs.Formulas.{holds}
use Rattle.routine_theory.proofs.Means.{forall_means, forall-named}
use Rattle.path_theory.specs.Points.{nil, Point, state_at}
use Rattle.path_theory.specs.Assignments.{Begins}
use Rattle.literal_theory.specs.Labels.{Label, named, base_label, along_label, term_label, label_node, Plan}
use Rattle.literal_theory.specs.Forms.{Form, kept, meets_form}
use Rattle.literal_theory.specs.Heaps.{cut_heap}
use Rattle.literal_theory.specs.Translation.{Places, plainly, bare_base, bare, translate, betweens}
use Rattle.literal_theory.proofs.Literals.{same_truth_lem}
use Rattle.literal_theory.proofs.Atoms.{Ground, label-node}
use Rattle.literal_theory.proofs.Translation.{Covered, plain_suits, translate_sound, translate_complete}
use Rattle.literal_theory.proofs.Names.{Each}

module _ (s : State) (nodes : List ℕ) (picks : ℕ → List Bool → ℕ) (ground : Ground s nodes picks) (P : Plan) (names : ℕ → ℕ) (name_nodes : (n : ℕ) → Node s (names n))
    (p : Point) (on_path : (i : ℕ) → Begins (p.stores i) (P.stores i)) (e : List Label) (f : Formula) where
  abbrev label : Label → ℕ
  label = label_node s nodes picks

  abbrev says : Form Label → Bool
  says = meets_form (cut_heap P label s names) s nodes label

  abbrev CutAt : Places → Label → Type 0
  CutAt name l = Covered s nodes picks ground P names name_nodes (betweens true p name (l ∷ e) f)

  -- what is assumed of all nodes holds of every name
  pub instance_sound : plainly true f ≡ true → (name : Places) (l : Label) → CutAt name l → says (kept p e f) ≡ true → says (translate P true p name (l ∷ e) f) ≡ true
  unfolding meets_form
  instance_sound plain name l cuts h =
      translate_sound s nodes picks ground P names name_nodes p on_path true name (l ∷ e) (map label (l ∷ e)) f refl cuts
      (plain_suits s nodes picks ground P names name_nodes p on_path true name (map label (l ∷ e)) f plain)
      ((same_truth_lem true _).1 ((forall_means (state_at s nodes p) (map label e) f).0 h (label l) (at_node l)))
    where
      at_node : (l : Label) → Node (state_at s nodes p) (label l)
      at_node l = unfold state_at in label-node s nodes picks ground P l

  -- where every node has a name, holding at the names is holding
  pub instances_complete : (name : Places) (ls : List Label) → ((v : ℕ) → Node s v → Memᴰ v (map label ls)) → Each (CutAt name) ls →
      ((l : Label) → Memᴰ l ls → says (translate P true p name (l ∷ e) f) ≡ true) → says (kept p e f) ≡ true
  unfolding meets_form state_at
  instances_complete name ls everywhere cuts h =
      forall-named (state_at s nodes p) (map label e) f (map label ls) everywhere
      (all_intro (λ v. holds (state_at s nodes p) (v ∷ map label e) f) (map label ls) (λ v m.
      let r = map-mem label v ls m in
      subst (λ (z : ℕ). holds (state_at s nodes p) (z ∷ map label e) f ≡ true) (sym r.2)
      ((same_truth_lem true _).0 (translate_complete s nodes picks ground P names name_nodes p on_path true name (r.0 ∷ e) f (cuts r.0 r.1) (h r.0 r.1)))))

-- Terms whose bound names bear no link: a label that is there, or one that the bound names have no part in

get_d_each : (Q : Label → Type 0) (ls : List Label) (i : ℕ) → Q (named nil) → Each Q ls → Q (get_or ls i (named nil))
get_d_each Q [] i n h = n
get_d_each Q (l ∷ ls) zero n h = h l (Memᴰ.head refl)
get_d_each Q (l ∷ ls) (suc i) n h = get_d_each Q ls i n (λ x m. h x (Memᴰ.tail m))

base_fits : (Q : Label → Type 0) (p : Point) (e : List Label) (b : Base) (is : List ℕ) → bare_base b is ≡ true → Q (named nil) → Each Q e →
    Q (along_label p is (base_label p [] b)) → Q (along_label p is (base_label p e b))
unfolding bare_base base_label along_label
base_fits Q p e null is h n k q = q
base_fits Q p e (variable x) is h n k q = q
base_fits Q p e (bound i) [] h n k q = get_d_each Q e i n k
base_fits Q p e (bound i) (j ∷ is) h n k q = absurd (false≢true h)

pub term_fits : (Q : Label → Type 0) (p : Point) (e : List Label) (t : Term) → bare t ≡ true → Q (named nil) → Each Q e → Q (term_label p [] t) → Q (term_label p e t)
unfolding term_label bare
term_fits Q p e t h n k q = base_fits Q p e t.base t.links h n k q
