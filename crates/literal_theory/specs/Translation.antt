-- What a path says, as a formula over literals.
use Rattle.std.specs.Prelude.{ℕ, suc, Bool, true, false, not, cond, List, [], ◌∷◌, ◌++◌, map, eqb}
use Rattle.logic.specs.Search.{◌and◌, from, all, select, flat_map}
use Rattle.routine_logic.specs.Syntax.{Base, null, variable, bound, Term, Formula, always, never, equal, unequal, reaches, between, flag, negation, both, either, implies, same, forall}
use Rattle.cut_theory.specs.Trees.{reaches_tree, between_tree, read_tree, flag_tree, Mark}
use Rattle.path_theory.specs.Points.{nil, initial, given, read, Point}
use Rattle.path_theory.specs.Assignments.{count}
use Rattle.path_theory.specs.Paths.{Fact, says, gives, Case}
use Rattle.literal_theory.specs.Labels.{Label, named, chosen, after, term_label, labels_in, Plan, cut_names, marks_of}
use Rattle.literal_theory.specs.Forms.{Form, truth, equals, reach, next, bit, kept, meet, join, junction, literals, conjunction, names_of}

-- labels by place in a formula: on the left or below, on the right
abbrev pub Places : Type 0
Places = List Bool → Label

abbrev pub left : Places → Places
left name d = name (false ∷ d)

abbrev pub right : Places → Places
right name d = name (true ∷ d)

-- the terms of a formula's atoms
unfoldable pub terms_in : Formula → List Term
terms_in always = []
terms_in never = []
terms_in (equal t u) = t ∷ u ∷ []
terms_in (unequal t u) = t ∷ u ∷ []
terms_in (reaches i t u) = t ∷ u ∷ []
terms_in (between i t u v) = t ∷ u ∷ v ∷ []
terms_in (flag j t) = t ∷ []
terms_in (negation f) = terms_in f
terms_in (both f g) = terms_in f ++ terms_in g
terms_in (either f g) = terms_in f ++ terms_in g
terms_in (implies f g) = terms_in f ++ terms_in g
terms_in (same f g) = terms_in f ++ terms_in g
terms_in (forall f) = terms_in f

-- "No alternation: within the body of a `forall` another may stand only plainly": no `forall` is denied
unfoldable pub plainly : Bool → Formula → Bool
plainly b always = true
plainly b never = true
plainly b (equal t u) = true
plainly b (unequal t u) = true
plainly b (reaches i t u) = true
plainly b (between i t u v) = true
plainly b (flag j t) = true
plainly b (negation f) = plainly (not b) f
plainly b (both f g) = plainly b f and plainly b g
plainly b (either f g) = plainly b f and plainly b g
plainly b (implies f g) = plainly (not b) f and plainly b g
plainly b (same f g) = plainly true f and plainly false f and (plainly b g and plainly (not b) g)
plainly b (forall f) = b and plainly b f

-- no name of a `forall` bears a link (03, claim 5)
unfoldable pub bare_base : Base → List ℕ → Bool
bare_base null is = true
bare_base (variable x) is = true
bare_base (bound i) [] = true
bare_base (bound i) (j ∷ is) = false

unfoldable pub bare : Term → Bool
bare t = bare_base t.base t.links

unfoldable pub unlinked : Formula → Bool
unlinked f = all bare (terms_in f)

-- the labels of a formula's terms, those of a `forall` aside, which stand for NULL here
unfoldable pub fixed_labels : Point → Formula → List Label
fixed_labels p f = map (term_label p []) (terms_in f)

-- the labels by place that a formula uses: those of the `forall`s that are denied
unfoldable pub choices : Bool → Places → Formula → List Label
choices b name (negation f) = choices (not b) name f
choices b name (both f g) = choices b (left name) f ++ choices b (right name) g
choices b name (either f g) = choices b (left name) f ++ choices b (right name) g
choices b name (implies f g) = choices (not b) (left name) f ++ choices b (right name) g
choices b name (same f g) = (choices true (left name) f ++ choices b (right name) g) ++ (choices false (left name) f ++ choices (not b) (right name) g)
choices b name (forall f) = cond b [] (name [] ∷ choices false (left name) f)
choices b name always = []
choices b name never = []
choices b name (equal t u) = []
choices b name (unequal t u) = []
choices b name (reaches i t u) = []
choices b name (between i t u v) = []
choices b name (flag j t) = []

-- A formula at a point, plain or denied, with labels for the `forall`s around it. An assumed `forall` is kept; one that is denied fails at a node that has
-- a label of its own.
module _ (P : Plan) where
  unfoldable pub translate : Bool → Point → Places → List Label → Formula → Form Label
  translate b p name e always = truth b
  translate b p name e never = truth (not b)
  translate b p name e (equal t u) = equals b (term_label p e t) (term_label p e u)
  translate b p name e (unequal t u) = equals (not b) (term_label p e t) (term_label p e u)
  translate b p name e (reaches i t u) = literals b i 0 (reaches_tree (cut_names P i) (count (p.stores i)) (term_label p e t) (term_label p e u))
  translate b p name e (between i t u v) =
      literals b i 0 (between_tree (cut_names P i) (count (p.stores i)) (term_label p e t) (term_label p e u) (term_label p e v))
  translate b p name e (flag j t) = literals true 0 j (flag_tree (marks_of (p.marks j)) b (term_label p e t))
  translate b p name e (negation f) = translate (not b) p name e f
  translate b p name e (both f g) = junction b (translate b p (left name) e f) (translate b p (right name) e g)
  translate b p name e (either f g) = junction (not b) (translate b p (left name) e f) (translate b p (right name) e g)
  translate b p name e (implies f g) = junction (not b) (translate (not b) p (left name) e f) (translate b p (right name) e g)
  translate b p name e (same f g) =
      join
      (meet (translate true p (left name) e f) (translate b p (right name) e g))
      (meet (translate false p (left name) e f) (translate (not b) p (right name) e g))
  translate b p name e (forall f) = cond b (kept p e f) (translate false p (left name) (name [] ∷ e) f)

  -- what a label that is read stands for: "`t->f` before and after an assignment"
  unfoldable pub reading : Label → Form Label
  reading (named nil) = truth true
  reading (named (initial x)) = truth true
  reading (named (given k)) = truth true
  reading (named (read i w a)) = literals true i 0 (read_tree (cut_names P i) (count w) (named a) (named (read i w a)))
  reading (chosen k d) = truth true
  reading (after i w l) = literals true i 0 (read_tree (cut_names P i) (count w) l (after i w l))

  -- "with each xi leading to itself"; what stands at a cut that is NULL is NULL
  unfoldable pub cut_form : ℕ → ℕ → Form Label
  cut_form i k =
      let c : Label = (cut_names P i).cut k in
      meet (next true i c c) (join (equals false c (named nil)) (equals true ((cut_names P i).old k) (named nil)))

  unfoldable pub cut_forms : ℕ → List (Form Label)
  cut_forms i = map (cut_form i) (from (cut_names P i).number 0)

  unfoldable pub cut_labels : ℕ → List Label
  cut_labels i = flat_map (λ k. (cut_names P i).cut k ∷ (cut_names P i).value k ∷ (cut_names P i).old k ∷ []) (from (cut_names P i).number 0)

  -- the facts of a path, numbered from k
  unfoldable pub fact_form : ℕ → Fact → Form Label
  fact_form k (says b p f) = translate b p (chosen k) [] f
  fact_form k (gives n) = truth true

  unfoldable pub fact_forms : ℕ → List Fact → Form Label
  fact_forms k [] = truth true
  fact_forms k (f ∷ fs) = meet (fact_form k f) (fact_forms (suc k) fs)

  -- the labels that some formula asks for, where these links are cut, and all that they are made of
  unfoldable pub asked : List ℕ → Form Label → List Label
  asked links f = flat_map labels_in (names_of f ++ flat_map cut_labels links)

  unfoldable pub whole : List ℕ → Form Label → Form Label
  whole links f = meet f (meet (conjunction (map reading (asked links f))) (conjunction (flat_map cut_forms links)))

-- The cuts that betweens ask for
pub record Cut : Type 0 where
  pub link : ℕ
  pub label : Label

unfoldable pub betweens : Bool → Point → Places → List Label → Formula → List Cut
betweens b p name e (between i t u v) = record { link = i; label = term_label p e v } ∷ []
betweens b p name e (negation f) = betweens (not b) p name e f
betweens b p name e (both f g) = betweens b p (left name) e f ++ betweens b p (right name) e g
betweens b p name e (either f g) = betweens b p (left name) e f ++ betweens b p (right name) e g
betweens b p name e (implies f g) = betweens (not b) p (left name) e f ++ betweens b p (right name) e g
betweens b p name e (same f g) =
    (betweens true p (left name) e f ++ betweens b p (right name) e g) ++ (betweens false p (left name) e f ++ betweens (not b) p (right name) e g)
betweens b p name e (forall f) = cond b [] (betweens false p (left name) (name [] ∷ e) f)
betweens b p name e always = []
betweens b p name e never = []
betweens b p name e (equal t u) = []
betweens b p name e (unequal t u) = []
betweens b p name e (reaches i t u) = []
betweens b p name e (flag j t) = []

unfoldable pub fact_betweens : ℕ → List Fact → List Cut
fact_betweens k [] = []
fact_betweens k (says b p f ∷ fs) = betweens b p (chosen k) [] f ++ fact_betweens (suc k) fs
fact_betweens k (gives n ∷ fs) = fact_betweens (suc k) fs

-- "One node is NULL; .. its flags are 0"
unfoldable pub null_flag : ℕ → Form Label
null_flag j = bit false j (named nil)

-- The formula of a case that a path comes to, where these flags are spoken of and these links are cut.
unfoldable pub plan_of : Case → Plan
plan_of x =
    record {
      stores = x.trail.point.stores;
      further = λ i. map (λ (c : Cut). c.label) (select (λ c. eqb c.link i) (fact_betweens 0 x.trail.facts));
      havocs = x.trail.point.havocs;
    }

unfoldable pub case_form : List ℕ → List ℕ → Case → Form Label
case_form flags links x = meet (conjunction (map null_flag flags)) (whole (plan_of x) links (fact_forms (plan_of x) 0 x.trail.facts))

-- The labels that a case and all instances of its `forall`s ask for, where no bound name bears a link (03, claim 5), these flags are assigned and these links are cut
unfoldable pub mark_labels : List ℕ → Point → List Label
mark_labels flags p = flat_map (λ j. map (λ (m : Mark Label). m.name) (marks_of (p.marks j))) flags

unfoldable pub fact_labels : List ℕ → ℕ → List Fact → List Label
fact_labels flags k [] = []
fact_labels flags k (says b p f ∷ fs) = (fixed_labels p f ++ (choices b (chosen k) f ++ mark_labels flags p)) ++ fact_labels flags (suc k) fs
fact_labels flags k (gives n ∷ fs) = fact_labels flags (suc k) fs

unfoldable pub case_labels : List ℕ → List ℕ → Case → List Label
case_labels flags links x = named nil ∷ (flat_map (cut_labels (plan_of x)) links ++ fact_labels flags 0 x.trail.facts)

-- "No alternation": of a formula that is plain or denied, the bodies of its assumed `forall`s have no denied one
unfoldable pub tidy : Bool → Formula → Bool
tidy b always = true
tidy b never = true
tidy b (equal t u) = true
tidy b (unequal t u) = true
tidy b (reaches i t u) = true
tidy b (between i t u v) = true
tidy b (flag j t) = true
tidy b (negation f) = tidy (not b) f
tidy b (both f g) = tidy b f and tidy b g
tidy b (either f g) = tidy b f and tidy b g
tidy b (implies f g) = tidy (not b) f and tidy b g
tidy b (same f g) = tidy true f and tidy b g and (tidy false f and tidy (not b) g)
tidy b (forall f) = cond b (plainly true f) (tidy false f)

-- a `forall` that is kept
pub record Kept : Type 0 where
  pub point : Point
  pub names : List Label
  pub body : Formula

unfoldable pub kept_in : Form Label → List Kept
kept_in (truth b) = []
kept_in (equals b x y) = []
kept_in (reach b i x y) = []
kept_in (next b i x y) = []
kept_in (bit b j x) = []
kept_in (kept p e f) = record { point = p; names = e; body = f } ∷ []
kept_in (meet f g) = kept_in f ++ kept_in g
kept_in (join f g) = kept_in f ++ kept_in g
