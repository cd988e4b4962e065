-- Where no bound name bears a link, the names of a case are finitely many and stay the same.
use Prim.Native.Nat.{ℕ, zero, suc, ◌+◌, ◌≤◌}
use native.Mathlib.Omega.{arith}
use mathlib.Core.Path.{◌≡◌, refl, subst}
use mathlib.Core.Logic.{◌⊎◌, ⊎_elim}
use mathlib.Core.Bool.{Bool, true, false, not, false≢true}
use mathlib.Core.List.Memᴰ
use mathlib.Core.List.{List, [], ◌∷◌, ◌++◌, map, Memᴰ}
use Rattle.logic.specs.Search.{flat_map, ◌and◌}
use Rattle.theory.proofs.Basics.Search.{and_left, and_right, and_intro, all_true, from_intro, flat_map_intro, map_intro}
use Rattle.routine_logic.specs.Syntax.{Term, Formula, always, never, equal, unequal, reaches, between, flag, negation, both, either, implies, same, forall, Routine}
use Rattle.cut_theory.specs.Trees as trees
use Rattle.path_theory.specs.Points.{Marks, Point}
use Rattle.path_theory.specs.Assignments.{count}
use Rattle.path_theory.specs.Paths.{Fact, says, gives, Case}
use Rattle.literal_theory.specs.Labels.{Label, chosen, term_label, Plan, cut_names, marks_of}
use Rattle.literal_theory.specs.Forms.{Form, junction, literals}
use Rattle.literal_theory.specs.Translation.{Places, left, right, terms_in, plainly, bare, unlinked, fixed_labels, choices, translate, cut_labels, plan_of, mark_labels, fact_labels, case_labels, tidy, Kept, kept_in}
use Rattle.literal_theory.specs.Claims.{CutWithin, CaseOf, FactAt, first, later, Arises, fact, instance_of, MarkedWithin, Unlinked, NamesFinite}
use Rattle.literal_theory.proofs.Names.{Each, each_cons, each_append, each_left, each_right, Only, only_each, OwnCut, plain_choices, translate_only}
use Rattle.literal_theory.proofs.Instances.{term_fits}
use Rattle.literal_theory.proofs.OnPath.{OwnPoint}
use Rattle.literal_theory.proofs.Facts.{point_below}
use Rattle.literal_theory.proofs.Ordered.{OwnFact, cases_ordered}
use Rattle.literal_theory.proofs.Claims.{fact_own}

-- what is kept in a translation
module _ (K : Kept → Type 0) where
  junction_kept : (b : Bool) (f g : Form Label) → Each K (kept_in f) → Each K (kept_in g) → Each K (kept_in (junction b f g))
  unfolding junction kept_in
  junction_kept true f g h k = each_append K (kept_in f) (kept_in g) h k
  junction_kept false f g h k = each_append K (kept_in f) (kept_in g) h k

  literals_kept : (b : Bool) (i j : ℕ) (t : trees.Tree Label) → Each K (kept_in (literals b i j t))
  unfolding literals kept_in
  literals_kept b i j trees.yes_tree = λ x m. absurd (Memᴰ.not-nil m)
  literals_kept b i j trees.no_tree = λ x m. absurd (Memᴰ.not-nil m)
  literals_kept b i j (trees.flagged c a) = λ x m. absurd (Memᴰ.not-nil m)
  literals_kept b i j (trees.same x y) = λ x m. absurd (Memᴰ.not-nil m)
  literals_kept b i j (trees.differ x y) = λ x m. absurd (Memᴰ.not-nil m)
  literals_kept b i j (trees.far x y) = λ x m. absurd (Memᴰ.not-nil m)
  literals_kept b i j (trees.leads x y) = λ x m. absurd (Memᴰ.not-nil m)
  literals_kept b i j (trees.both f g) = junction_kept b (literals b i j f) (literals b i j g) (literals_kept b i j f) (literals_kept b i j g)
  literals_kept b i j (trees.either f g) = junction_kept (not b) (literals b i j f) (literals b i j g) (literals_kept b i j f) (literals_kept b i j g)

-- where no `forall` is denied there is no alternation
plain-tidy : (b : Bool) (f : Formula) → plainly b f ≡ true → tidy b f ≡ true
unfolding plainly tidy
plain-tidy b always h = refl
plain-tidy b never h = refl
plain-tidy b (equal t u) h = refl
plain-tidy b (unequal t u) h = refl
plain-tidy b (reaches i t u) h = refl
plain-tidy b (between i t u v) h = refl
plain-tidy b (flag j t) h = refl
plain-tidy b (negation f) h = plain-tidy (not b) f h
plain-tidy b (both f g) h = and_intro (plain-tidy b f (and_left _ _ h)) (plain-tidy b g (and_right (plainly b f) _ h))
plain-tidy b (either f g) h = and_intro (plain-tidy b f (and_left _ _ h)) (plain-tidy b g (and_right (plainly b f) _ h))
plain-tidy b (implies f g) h = and_intro (plain-tidy (not b) f (and_left _ _ h)) (plain-tidy b g (and_right (plainly (not b) f) _ h))
plain-tidy b (same f g) h =
    let hf = and_left (plainly true f and plainly false f) _ h in
    let hg = and_right (plainly true f and plainly false f) (plainly b g and plainly (not b) g) h in
    and_intro
    (and_intro (plain-tidy true f (and_left _ _ hf)) (plain-tidy b g (and_left _ _ hg)))
    (and_intro (plain-tidy false f (and_right (plainly true f) _ hf)) (plain-tidy (not b) g (and_right (plainly b g) _ hg)))
plain-tidy true (forall f) h = and_right true _ h
plain-tidy false (forall f) h = absurd (false≢true (and_left _ _ h))

-- A plan and some names at a point: cuts are among them, and what is marked there
module _ (P : Plan) (N : List Label) where
  abbrev In : Label → Type 0
  In l = Memᴰ l N

  pub record Around (p : Point) : Type 0 where
    pub cuts : (i : ℕ) → OwnCut In (cut_names P i)
    pub below : (i : ℕ) → count (p.stores i) ≤ (cut_names P i).number
    pub marks : (j : ℕ) (m : trees.Mark Label) → Memᴰ m (marks_of (p.marks j)) → In m.name

  abbrev FitsAt : Point → Term → Type 0
  FitsAt p t = (e : List Label) → Each In e → In (term_label p e t)

  pub record Fine (κ : Kept) : Type 0 where
    pub around : Around κ.point
    pub terms : Each (FitsAt κ.point) (terms_in κ.body)
    pub plain : plainly true κ.body ≡ true
    pub names : Each In κ.names

  module _ (p : Point) (around : Around p) where
    translate_fine : (b : Bool) (name : Places) (e : List Label) (f : Formula) → Each (FitsAt p) (terms_in f) → tidy b f ≡ true → Each In (choices b name f) → Each In e →
        Each Fine (kept_in (translate P b p name e f))
    unfolding translate terms_in tidy choices kept_in
    translate_fine b name e always h q n k = λ x m. absurd (Memᴰ.not-nil m)
    translate_fine b name e never h q n k = λ x m. absurd (Memᴰ.not-nil m)
    translate_fine b name e (equal t u) h q n k = λ x m. absurd (Memᴰ.not-nil m)
    translate_fine b name e (unequal t u) h q n k = λ x m. absurd (Memᴰ.not-nil m)
    translate_fine b name e (reaches i t u) h q n k = literals_kept Fine b i 0 _
    translate_fine b name e (between i t u v) h q n k = literals_kept Fine b i 0 _
    translate_fine b name e (flag j t) h q n k = literals_kept Fine true 0 j _
    translate_fine b name e (negation f) h q n k = translate_fine (not b) name e f h q n k
    translate_fine b name e (both f g) h q n k =
        junction_kept Fine b _ _
        (translate_fine b (left name) e f (each_left (FitsAt p) (terms_in f) (terms_in g) h) (and_left _ _ q) (each_left In (choices b (left name) f) _ n) k)
        (translate_fine b (right name) e g (each_right (FitsAt p) (terms_in f) (terms_in g) h) (and_right (tidy b f) _ q) (each_right In (choices b (left name) f) _ n) k)
    translate_fine b name e (either f g) h q n k =
        junction_kept Fine (not b) _ _
        (translate_fine b (left name) e f (each_left (FitsAt p) (terms_in f) (terms_in g) h) (and_left _ _ q) (each_left In (choices b (left name) f) _ n) k)
        (translate_fine b (right name) e g (each_right (FitsAt p) (terms_in f) (terms_in g) h) (and_right (tidy b f) _ q) (each_right In (choices b (left name) f) _ n) k)
    translate_fine b name e (implies f g) h q n k =
        junction_kept Fine (not b) _ _
        (translate_fine (not b) (left name) e f (each_left (FitsAt p) (terms_in f) (terms_in g) h) (and_left _ _ q) (each_left In (choices (not b) (left name) f) _ n) k)
        (translate_fine b (right name) e g (each_right (FitsAt p) (terms_in f) (terms_in g) h) (and_right (tidy (not b) f) _ q) (each_right In (choices (not b) (left name) f) _ n) k)
    translate_fine b name e (same f g) h q n k =
        let hf = each_left (FitsAt p) (terms_in f) (terms_in g) h in
        let hg = each_right (FitsAt p) (terms_in f) (terms_in g) h in
        let q₁ = and_left (tidy true f and tidy b g) _ q in
        let q₂ = and_right (tidy true f and tidy b g) (tidy false f and tidy (not b) g) q in
        let n₁ = each_left In (choices true (left name) f ++ choices b (right name) g) _ n in
        let n₂ = each_right In (choices true (left name) f ++ choices b (right name) g) _ n in
        each_append Fine (kept_in (translate P true p (left name) e f) ++ kept_in (translate P b p (right name) e g)) _
        (each_append Fine (kept_in (translate P true p (left name) e f)) _
        (translate_fine true (left name) e f hf (and_left _ _ q₁) (each_left In (choices true (left name) f) _ n₁) k)
        (translate_fine b (right name) e g hg (and_right (tidy true f) _ q₁) (each_right In (choices true (left name) f) _ n₁) k))
        (each_append Fine (kept_in (translate P false p (left name) e f)) _
        (translate_fine false (left name) e f hf (and_left _ _ q₂) (each_left In (choices false (left name) f) _ n₂) k)
        (translate_fine (not b) (right name) e g hg (and_right (tidy false f) _ q₂) (each_right In (choices false (left name) f) _ n₂) k))
    translate_fine true name e (forall f) h q n k =
        each_cons Fine _ [] (record { around = around; terms = h; plain = q; names = k }) (λ x m. absurd (Memᴰ.not-nil m))
    translate_fine false name e (forall f) h q n k =
        translate_fine false (left name) (name [] ∷ e) f h q (λ l m. n l (Memᴰ.tail m)) (each_cons In (name []) e (n (name []) (Memᴰ.head refl)) k)

    translate-names : (b : Bool) (name : Places) (e : List Label) (f : Formula) → Each (FitsAt p) (terms_in f) → Each In (choices b name f) → Each In e → Only In (translate P b p name e f)
    translate-names = translate_only In P p around.cuts around.below around.marks

-- The labels of a case: cuts, terms, choices and marks of each fact are among them
module _ (flags links : List ℕ) (x : Case) where
  abbrev names : List Label
  names = case_labels flags links x

  cut_label : CutWithin links x → (i : ℕ) → OwnCut (λ l. Memᴰ l names) (cut_names (plan_of x) i)
  cut_label within i k low = (at_cut _ (Memᴰ.head refl), at_cut _ (Memᴰ.tail (Memᴰ.head refl)), at_cut _ (Memᴰ.tail (Memᴰ.tail (Memᴰ.head refl))))
    where
      at_cut : (l : Label) → Memᴰ l ((cut_names (plan_of x) i).cut k ∷ (cut_names (plan_of x) i).value k ∷ (cut_names (plan_of x) i).old k ∷ []) → Memᴰ l names
      at_cut l m =
          unfold case_labels cut_labels in
          ⊎_elim
          (λ mem. Memᴰ.tail (Memᴰ.append_left _ (flat_map_intro (cut_labels (plan_of x)) i l mem
          (flat_map_intro (λ n. (cut_names (plan_of x) i).cut n ∷ (cut_names (plan_of x) i).value n ∷ (cut_names (plan_of x) i).old n ∷ []) k l
          (from_intro (cut_names (plan_of x) i).number 0 k (omega arith) (omega (arith, low))) m))))
          (λ e. absurd (omega (arith, low, e)))
          (within i)

  -- of a fact by its number
  fact_labels_lem : (start k : ℕ) (b : Bool) (p : Point) (f : Formula) (fs : List Fact) → FactAt k (says b p f) fs →
      Each (λ l. Memᴰ l (fact_labels flags start fs)) (fixed_labels p f ++ (choices b (chosen (start + k)) f ++ mark_labels flags p))
  unfolding fact_labels
  fact_labels_lem start zero b p f [] at = elim at [ ]
  fact_labels_lem start (suc k) b p f [] at = elim at [ ]
  fact_labels_lem start zero b p f (g ∷ fs) first =
      subst (λ (n : ℕ). Each (λ l. Memᴰ l (fact_labels flags start (says b p f ∷ fs))) (fixed_labels p f ++ (choices b (chosen n) f ++ mark_labels flags p)))
      (let e : start ≡ start + 0 = omega arith in e) (λ l m. Memᴰ.append_left (fact_labels flags (suc start) fs) m)
  fact_labels_lem start (suc k) b p f (says c q h ∷ fs) (later at) =
      subst (λ (n : ℕ). Each (λ l. Memᴰ l (fact_labels flags start (says c q h ∷ fs))) (fixed_labels p f ++ (choices b (chosen n) f ++ mark_labels flags p)))
      (let e : suc start + k ≡ start + suc k = omega arith in e)
      (λ l m. Memᴰ.append_right (fixed_labels q h ++ (choices c (chosen start) h ++ mark_labels flags q)) (fact_labels_lem (suc start) k b p f fs at l m))
  fact_labels_lem start (suc k) b p f (gives n ∷ fs) (later at) =
      subst (λ (n : ℕ). Each (λ l. Memᴰ l (fact_labels flags (suc start) fs)) (fixed_labels p f ++ (choices b (chosen n) f ++ mark_labels flags p)))
      (let e : suc start + k ≡ start + suc k = omega arith in e) (fact_labels_lem (suc start) k b p f fs at)

  fact-mem : (k : ℕ) (f : Fact) (fs : List Fact) → FactAt k f fs → Memᴰ f fs
  fact-mem zero f [] at = elim at [ ]
  fact-mem (suc k) f [] at = elim at [ ]
  fact-mem zero f (g ∷ fs) first = Memᴰ.head refl
  fact-mem (suc k) f (g ∷ fs) (later at) = Memᴰ.tail (fact-mem k f fs at)

  module _ (r : Routine) (of : CaseOf r x) (within : CutWithin links x) (marked : MarkedWithin flags x.trail.facts) (plain : Unlinked x.trail.facts) where
    module _ (k : ℕ) (b : Bool) (p : Point) (f : Formula) (at : FactAt k (says b p f) x.trail.facts) where
      own_labels : Each (λ l. Memᴰ l names) (fixed_labels p f ++ (choices b (chosen k) f ++ mark_labels flags p))
      own_labels l m =
          unfold case_labels in
          Memᴰ.tail (Memᴰ.append_right (flat_map (cut_labels (plan_of x)) links)
          (subst (λ (n : ℕ). Each (λ l. Memᴰ l (fact_labels flags 0 x.trail.facts)) (fixed_labels p f ++ (choices b (chosen n) f ++ mark_labels flags p)))
          (let e : 0 + k ≡ k = omega arith in e) (fact_labels_lem 0 k b p f x.trail.facts at) l m))

      mem : Memᴰ (says b p f) x.trail.facts
      mem = fact-mem k (says b p f) x.trail.facts at

      own_point : OwnPoint (plan_of x) p
      unfolding OwnFact
      own_point = fact_own x (says b p f) ((cases_ordered r of.paths of.of_routine x of.comes).facts (says b p f) mem)

      fact-around : Around (plan_of x) names p
      unfolding marks_of
      fact-around =
          record {
            cuts = cut_label within;
            below = point_below (plan_of x) p own_point;
            marks = λ j m h. ⊎_elim
                (λ mem_j. own_labels m.name (Memᴰ.append_right (fixed_labels p f) (Memᴰ.append_right (choices b (chosen k) f) (mark_label j m h mem_j))))
                (λ e. absurd (Memᴰ.not-nil (subst (λ (z : Marks). Memᴰ m (marks_of z)) e h)))
                (marked b p f mem j);
          }
        where
          mark_label : (j : ℕ) (m : trees.Mark Label) → Memᴰ m (marks_of (p.marks j)) → Memᴰ j flags → Memᴰ m.name (mark_labels flags p)
          mark_label j m h mem_j =
              unfold mark_labels in
              flat_map_intro (λ i. map (λ (n : trees.Mark Label). n.name) (marks_of (p.marks i))) j m.name mem_j (map_intro (λ (n : trees.Mark Label). n.name) m h)

      fact_fits : Each (FitsAt (plan_of x) names p) (terms_in f)
      unfolding unlinked fixed_labels case_labels
      fact_fits t m e inside =
          term_fits (λ l. Memᴰ l names) p e t (all_true bare t (plain b p f mem).0 m) (Memᴰ.head refl) inside
          (own_labels (term_label p [] t) (Memᴰ.append_left _ (map_intro (term_label p []) t m)))

      fact-choices : Each (λ l. Memᴰ l names) (choices b (chosen k) f)
      fact-choices l m = own_labels l (Memᴰ.append_right (fixed_labels p f) (Memᴰ.append_left (mark_labels flags p) m))

    -- names and what is kept, of all that arises
    arises_fine : (f : Form Label) → Arises x names f → Only (λ l. Memᴰ l names) f × Each (Fine (plan_of x) names) (kept_in f)
    arises_fine g (fact {k = k} {b = b} {p = p} {f = f} at) = (
      translate-names (plan_of x) names p (fact-around k b p f at) b (chosen k) [] f (fact_fits k b p f at) (fact-choices k b p f at) (λ l m. absurd (Memᴰ.not-nil m)),
      translate_fine (plan_of x) names p (fact-around k b p f at) b (chosen k) [] f (fact_fits k b p f at) (plain b p f (mem k b p f at)).1 (fact-choices k b p f at)
          (λ l m. absurd (Memᴰ.not-nil m)),
    )
    arises_fine g (instance_of {f = f} κ name l a m inside) =
        let fine = (arises_fine f a).1 κ m in
        let chosen_names = plain_choices (λ l. Memᴰ l names) true name κ.body fine.plain in
        let bounds = each_cons (λ l. Memᴰ l names) l κ.names inside fine.names in (
          translate-names (plan_of x) names κ.point fine.around true name (l ∷ κ.names) κ.body fine.terms chosen_names bounds,
          translate_fine (plan_of x) names κ.point fine.around true name (l ∷ κ.names) κ.body fine.terms (plain-tidy true κ.body fine.plain) chosen_names bounds,
        )

pub names_finite : NamesFinite
names_finite =
    record {
      closed = λ r x of flags links within marked plain f a. only_each (λ l. Memᴰ l (case_labels flags links x)) f (arises_fine flags links x r of within marked plain f a).0;
    }
