-- The names that formulas speak of.
use Prim.Native.Nat.{ℕ, zero, suc, ◌≤◌, ◌<◌}
use native.Mathlib.Omega.{arith}
use mathlib.Core.Path.{◌≡◌, refl, sym, ap, ◌∙◌, subst}
use mathlib.Core.Logic.{◌⊎◌, ⊎_elim}
use mathlib.Core.Bool.{Bool, true, false, not, cond, false≢true}
use mathlib.Core.List.Memᴰ
use mathlib.Core.List.{List, [], ◌∷◌, ◌++◌, map, Memᴰ}
use lib.Dec.{eqb, ltb}
use Rattle.logic.specs.Search.{from, ◌and◌, ◌or◌}
use Rattle.theory.proofs.Basics.Search.{and_left, and_right, from-mem}
use Rattle.routine_logic.specs.Syntax.{Term, Formula, always, never, equal, unequal, reaches, between, flag, negation, both, either, implies, same, forall}
use Rattle.routine_logic.specs.State.{State}
use Rattle.routine_logic.specs.Formulas.{reaches_by, holds, same_truth}
use Rattle.cut_theory.specs.Jumps.{without}
use Rattle.cut_theory.proofs.Trees.{without-mem}
use Rattle.cut_theory.specs.Trees as trees
use Rattle.path_theory.specs.Points.{Point, state_at}
use Rattle.path_theory.specs.Assignments.{count}
use Rattle.literal_theory.specs.Labels.{Label, term_label, Plan, cut_names, marks_of}
use Rattle.literal_theory.specs.Forms.{Form, truth, equals, reach, next, bit, kept, meet, join, junction, literals, names_of, meets_form}
use Rattle.literal_theory.specs.Translation.{Places, left, right, terms_in, plainly, choices, translate}

-- each of some is such
abbrev pub Each : {A : Type 0} → (A → Type 0) → List A → Type 0
Each {A} Q xs = (x : A) → Memᴰ x xs → Q x

pub each_cons : {A : Type 0} (Q : A → Type 0) (x : A) (xs : List A) → Q x → Each Q xs → Each Q (x ∷ xs)
each_cons Q x xs h k y m = ⊎_elim (λ e. subst Q (sym e) h) (λ m'. k y m') (Memᴰ.cases_cons m)

pub each_append : {A : Type 0} (Q : A → Type 0) (xs ys : List A) → Each Q xs → Each Q ys → Each Q (xs ++ ys)
each_append Q xs ys h k x m = ⊎_elim (λ m'. h x m') (λ m'. k x m') (Memᴰ.append_cases xs m)

pub each_left : {A : Type 0} (Q : A → Type 0) (xs ys : List A) → Each Q (xs ++ ys) → Each Q xs
each_left Q xs ys h x m = h x (Memᴰ.append_left ys m)

pub each_right : {A : Type 0} (Q : A → Type 0) (xs ys : List A) → Each Q (xs ++ ys) → Each Q ys
each_right Q xs ys h x m = h x (Memᴰ.append_right xs m)

module _ {A : Type 0} (Q : A → Type 0) where
  unfoldable pub OnlyTree : trees.Tree A → Type 0
  OnlyTree trees.yes_tree = Unit
  OnlyTree trees.no_tree = Unit
  OnlyTree (trees.flagged c a) = Q a
  OnlyTree (trees.same x y) = Q x × Q y
  OnlyTree (trees.differ x y) = Q x × Q y
  OnlyTree (trees.far x y) = Q x × Q y
  OnlyTree (trees.leads x y) = Q x × Q y
  OnlyTree (trees.both f g) = OnlyTree f × OnlyTree g
  OnlyTree (trees.either f g) = OnlyTree f × OnlyTree g

  unfoldable pub Only : Form A → Type 0
  Only (truth b) = Unit
  Only (equals b x y) = Q x × Q y
  Only (reach b i x y) = Q x × Q y
  Only (next b i x y) = Q x × Q y
  Only (bit b j x) = Q x
  Only (kept p e f) = Each Q e
  Only (meet f g) = Only f × Only g
  Only (join f g) = Only f × Only g

  junction_only : (b : Bool) (f g : Form A) → Only f → Only g → Only (junction b f g)
  unfolding junction Only
  junction_only true f g h k = (h, k)
  junction_only false f g h k = (h, k)

  literals_only : (b : Bool) (i j : ℕ) (t : trees.Tree A) → OnlyTree t → Only (literals b i j t)
  unfolding literals Only OnlyTree
  literals_only b i j trees.yes_tree h = tt
  literals_only b i j trees.no_tree h = tt
  literals_only b i j (trees.flagged c a) h = h
  literals_only b i j (trees.same x y) h = h
  literals_only b i j (trees.differ x y) h = h
  literals_only b i j (trees.far x y) h = h
  literals_only b i j (trees.leads x y) h = h
  literals_only b i j (trees.both f g) h = junction_only b _ _ (literals_only b i j f h.0) (literals_only b i j g h.1)
  literals_only b i j (trees.either f g) h = junction_only (not b) _ _ (literals_only b i j f h.0) (literals_only b i j g h.1)

  pub only_each : (f : Form A) → Only f → Each Q (names_of f)
  unfolding names_of Only
  only_each (truth b) h = λ x m. absurd (Memᴰ.not-nil m)
  only_each (equals b x y) h = each_cons Q x _ h.0 (each_cons Q y _ h.1 (λ z m. absurd (Memᴰ.not-nil m)))
  only_each (reach b i x y) h = each_cons Q x _ h.0 (each_cons Q y _ h.1 (λ z m. absurd (Memᴰ.not-nil m)))
  only_each (next b i x y) h = each_cons Q x _ h.0 (each_cons Q y _ h.1 (λ z m. absurd (Memᴰ.not-nil m)))
  only_each (bit b j x) h = each_cons Q x _ h (λ z m. absurd (Memᴰ.not-nil m))
  only_each (kept p e f) h = h
  only_each (meet f g) h = each_append Q (names_of f) (names_of g) (only_each f h.0) (only_each g h.1)
  only_each (join f g) h = each_append Q (names_of f) (names_of g) (only_each f h.0) (only_each g h.1)

  pub each_only : (f : Form A) → Each Q (names_of f) → Only f
  unfolding names_of Only
  each_only (truth b) h = tt
  each_only (equals b x y) h = (h x (Memᴰ.head refl), h y (Memᴰ.tail (Memᴰ.head refl)))
  each_only (reach b i x y) h = (h x (Memᴰ.head refl), h y (Memᴰ.tail (Memᴰ.head refl)))
  each_only (next b i x y) h = (h x (Memᴰ.head refl), h y (Memᴰ.tail (Memᴰ.head refl)))
  each_only (bit b j x) h = h x (Memᴰ.head refl)
  each_only (kept p e f) h = h
  each_only (meet f g) h = (each_only f (each_left Q (names_of f) (names_of g) h), each_only g (each_right Q (names_of f) (names_of g) h))
  each_only (join f g) h = (each_only f (each_left Q (names_of f) (names_of g) h), each_only g (each_right Q (names_of f) (names_of g) h))

  -- Trees of cuts

  every_only : (f : ℕ → trees.Tree A) (is : List ℕ) → ((i : ℕ) → Memᴰ i is → OnlyTree (f i)) → OnlyTree (trees.every f is)
  unfolding trees.every OnlyTree
  every_only f [] h = tt
  every_only f (i ∷ is) h = (h i (Memᴰ.head refl), every_only f is (λ k m. h k (Memᴰ.tail m)))

  some_only : (f : ℕ → trees.Tree A) (is : List ℕ) → ((i : ℕ) → Memᴰ i is → OnlyTree (f i)) → OnlyTree (trees.some_tree f is)
  unfolding trees.some_tree OnlyTree
  some_only f [] h = tt
  some_only f (i ∷ is) h = (h i (Memᴰ.head refl), some_only f is (λ k m. h k (Memᴰ.tail m)))

  cond_only : (b : Bool) (t u : trees.Tree A) → OnlyTree t → OnlyTree u → OnlyTree (cond b t u)
  cond_only true t u h k = h
  cond_only false t u h k = k

  abbrev pub OwnCut : trees.Cuts A → Type 0
  OwnCut c = (k : ℕ) → k < c.number → Q (c.cut k) × Q (c.value k) × Q (c.old k)

  module _ (c : trees.Cuts A) (own : OwnCut c) (j : ℕ) (below : j ≤ c.number) where
    active_only : (i : ℕ) → i < c.number → OnlyTree (trees.active_tree c j i)
    unfolding trees.active_tree
    active_only i l =
        cond_only (ltb i j) _ _
        (every_only _ (from j 0) (λ m mem. let k = from-mem j 0 m mem in cond_only (ltb i m) _ _ (pair m i (omega (arith, k.1, below)) l) nothing))
        (every_only _ (from i 0) (λ m mem. let k = from-mem i 0 m mem in pair m i (omega (arith, k.1, l)) l))
      where
        nothing : OnlyTree trees.yes_tree
        nothing = unfold OnlyTree in tt

        pair : (m i : ℕ) → m < c.number → i < c.number → OnlyTree (trees.differ (c.cut m) (c.cut i))
        pair m i k l = unfold OnlyTree in ((own m k).0, (own i l).0)

    target_only : (i : ℕ) → i < c.number → Q (trees.target_name c j i)
    unfolding trees.target_name
    target_only i l = go (ltb i j)
      where
        go : (b : Bool) → Q (cond b (c.value i) (c.old i))
        go true = (own i l).1
        go false = (own i l).2

    avoiding_only : (zs : List A) (x : A) → Each Q zs → Q x → OnlyTree (trees.avoiding zs x)
    unfolding trees.avoiding OnlyTree
    avoiding_only [] x h k = tt
    avoiding_only (z ∷ zs) x h k = ((k, h z (Memᴰ.head refl)), avoiding_only zs x (λ y m. h y (Memᴰ.tail m)) k)

    reach_only : (zs : List A) → Each Q zs → (m : ℕ) (is : List ℕ) (a b : A) → ((i : ℕ) → Memᴰ i is → i < c.number) → Q a → Q b →
        OnlyTree (trees.reach_tree c j zs m is a b)
    unfolding trees.reach_tree OnlyTree
    reach_only zs avoid zero is a b low h k = (h, k)
    reach_only zs avoid (suc m) is a b low h k = (
      (h, k),
      some_only _ is (λ i mem.
          let l : i < c.number = low i mem in (
            (h, (own i l).0),
            (
              active_only i l,
              (
                avoiding_only zs (c.cut i) avoid (own i l).0,
                reach_only zs avoid m (without i is) (trees.target_name c j i) b (λ n mem'. low n (without-mem i n is mem')) (target_only i l) k,
              ),
            ),
          )),
    )

    numbers : (i : ℕ) → Memᴰ i (from c.number 0) → i < c.number
    numbers i m = let l = from-mem c.number 0 i m in omega (arith, l.1)

    pub reaches_only : (a b : A) → Q a → Q b → OnlyTree (trees.reaches_tree c j a b)
    unfolding trees.reaches_tree
    reaches_only a b h k = reach_only [] (λ z m. absurd (Memᴰ.not-nil m)) c.number (from c.number 0) a b numbers h k

    pub between_only : (a b z : A) → Q a → Q b → Q z → OnlyTree (trees.between_tree c j a b z)
    unfolding trees.between_tree OnlyTree
    between_only a b z h k l =
        (reach_only (z ∷ []) (each_cons Q z [] l (λ y m. absurd (Memᴰ.not-nil m))) c.number (from c.number 0) a b numbers h k, reaches_only a z h l)

  flag_only : (ms : List (trees.Mark A)) (b : Bool) (a : A) → ((m : trees.Mark A) → Memᴰ m ms → Q m.name) → Q a → OnlyTree (trees.flag_tree ms b a)
  unfolding trees.flag_tree OnlyTree
  flag_only [] b a h k = k
  flag_only (m ∷ ms) b a h k =
      let q : Q m.name = h m (Memᴰ.head refl) in
      (((k, q), cond_only (same_truth m.value b) trees.yes_tree trees.no_tree tt tt), ((k, q), flag_only ms b a (λ n mem. h n (Memᴰ.tail mem)) k))

-- Names that stand for the same nodes are as good.
pub map_alike : {A B : Type 0} (f g : A → B) (xs : List A) → Each (λ x. f x ≡ g x) xs → map f xs ≡ map g xs
map_alike f g [] h = refl
map_alike f g (x ∷ xs) h = ap (λ y. y ∷ map f xs) (h x (Memᴰ.head refl)) ∙ ap (λ ys. g x ∷ ys) (map_alike f g xs (λ y m. h y (Memᴰ.tail m)))

pub meets_alike : {A : Type 0} (g start : State) (nodes : List ℕ) (node node' : A → ℕ) (f : Form A) → Only (λ a. node a ≡ node' a) f →
    meets_form g start nodes node f ≡ meets_form g start nodes node' f
unfolding meets_form Only
meets_alike g start nodes node node' (truth b) h = refl
meets_alike g start nodes node node' (equals b x y) h =
    ap (λ (v : ℕ). same_truth b (eqb v (node y))) h.0 ∙ ap (λ (v : ℕ). same_truth b (eqb (node' x) v)) h.1
meets_alike g start nodes node node' (reach b i x y) h =
    ap (λ (v : ℕ). same_truth b (reaches_by g i v (node y))) h.0 ∙ ap (λ (v : ℕ). same_truth b (reaches_by g i (node' x) v)) h.1
meets_alike g start nodes node node' (next b i x y) h =
    ap (λ (v : ℕ). same_truth b (eqb (g.link i v) (node y))) h.0 ∙ ap (λ (v : ℕ). same_truth b (eqb (g.link i (node' x)) v)) h.1
meets_alike g start nodes node node' (bit b j x) h = ap (λ (v : ℕ). same_truth b (g.field j v)) h
meets_alike g start nodes node node' (kept p e f) h = ap (λ (v : List ℕ). holds (state_at start nodes p) v (forall f)) (map_alike node node' e h)
meets_alike g start nodes node node' (meet f k) h =
    ap (λ (v : Bool). v and meets_form g start nodes node k) (meets_alike g start nodes node node' f h.0)
    ∙ ap (meets_form g start nodes node' f and◌) (meets_alike g start nodes node node' k h.1)
meets_alike g start nodes node node' (join f k) h =
    ap (λ (v : Bool). v or meets_form g start nodes node k) (meets_alike g start nodes node node' f h.0)
    ∙ ap (meets_form g start nodes node' f or◌) (meets_alike g start nodes node node' k h.1)

-- Labels by place
module _ (Q : Label → Type 0) where
  pub choices_each : (b : Bool) (name : Places) (f : Formula) → ((d : List Bool) → Q (name d)) → Each Q (choices b name f)
  unfolding choices
  choices_each b name (negation f) n = choices_each (not b) name f n
  choices_each b name (both f g) n = each_append Q (choices b (left name) f) _ (choices_each b (left name) f (λ d. n (false ∷ d))) (choices_each b (right name) g (λ d. n (true ∷ d)))
  choices_each b name (either f g) n = each_append Q (choices b (left name) f) _ (choices_each b (left name) f (λ d. n (false ∷ d))) (choices_each b (right name) g (λ d. n (true ∷ d)))
  choices_each b name (implies f g) n =
      each_append Q (choices (not b) (left name) f) _ (choices_each (not b) (left name) f (λ d. n (false ∷ d))) (choices_each b (right name) g (λ d. n (true ∷ d)))
  choices_each b name (same f g) n =
      each_append Q (choices true (left name) f ++ choices b (right name) g) _
      (each_append Q (choices true (left name) f) _ (choices_each true (left name) f (λ d. n (false ∷ d))) (choices_each b (right name) g (λ d. n (true ∷ d))))
      (each_append Q (choices false (left name) f) _ (choices_each false (left name) f (λ d. n (false ∷ d))) (choices_each (not b) (right name) g (λ d. n (true ∷ d))))
  choices_each true name (forall f) n = λ l m. absurd (Memᴰ.not-nil m)
  choices_each false name (forall f) n = each_cons Q (name []) _ (n []) (choices_each false (left name) f (λ d. n (false ∷ d)))
  choices_each b name always n = λ l m. absurd (Memᴰ.not-nil m)
  choices_each b name never n = λ l m. absurd (Memᴰ.not-nil m)
  choices_each b name (equal t u) n = λ l m. absurd (Memᴰ.not-nil m)
  choices_each b name (unequal t u) n = λ l m. absurd (Memᴰ.not-nil m)
  choices_each b name (reaches i t u) n = λ l m. absurd (Memᴰ.not-nil m)
  choices_each b name (between i t u v) n = λ l m. absurd (Memᴰ.not-nil m)
  choices_each b name (flag j t) n = λ l m. absurd (Memᴰ.not-nil m)

  -- where no `forall` is denied there are none
  pub plain_choices : (b : Bool) (name : Places) (f : Formula) → plainly b f ≡ true → Each Q (choices b name f)
  unfolding choices plainly
  plain_choices b name (negation f) h = plain_choices (not b) name f h
  plain_choices b name (both f g) h =
      each_append Q (choices b (left name) f) _ (plain_choices b (left name) f (and_left _ _ h)) (plain_choices b (right name) g (and_right (plainly b f) _ h))
  plain_choices b name (either f g) h =
      each_append Q (choices b (left name) f) _ (plain_choices b (left name) f (and_left _ _ h)) (plain_choices b (right name) g (and_right (plainly b f) _ h))
  plain_choices b name (implies f g) h =
      each_append Q (choices (not b) (left name) f) _ (plain_choices (not b) (left name) f (and_left _ _ h)) (plain_choices b (right name) g (and_right (plainly (not b) f) _ h))
  plain_choices b name (same f g) h =
      let hf = and_left (plainly true f and plainly false f) _ h in
      let hg = and_right (plainly true f and plainly false f) (plainly b g and plainly (not b) g) h in
      each_append Q (choices true (left name) f ++ choices b (right name) g) _
      (each_append Q (choices true (left name) f) _ (plain_choices true (left name) f (and_left _ _ hf)) (plain_choices b (right name) g (and_left _ _ hg)))
      (each_append Q (choices false (left name) f) _ (plain_choices false (left name) f (and_right (plainly true f) _ hf)) (plain_choices (not b) (right name) g (and_right (plainly b g) _ hg)))
  plain_choices true name (forall f) h = λ l m. absurd (Memᴰ.not-nil m)
  plain_choices false name (forall f) h = absurd (false≢true (and_left _ _ h))
  plain_choices b name always h = λ l m. absurd (Memᴰ.not-nil m)
  plain_choices b name never h = λ l m. absurd (Memᴰ.not-nil m)
  plain_choices b name (equal t u) h = λ l m. absurd (Memᴰ.not-nil m)
  plain_choices b name (unequal t u) h = λ l m. absurd (Memᴰ.not-nil m)
  plain_choices b name (reaches i t u) h = λ l m. absurd (Memᴰ.not-nil m)
  plain_choices b name (between i t u v) h = λ l m. absurd (Memᴰ.not-nil m)
  plain_choices b name (flag j t) h = λ l m. absurd (Memᴰ.not-nil m)

-- The names of a translation: those of its terms, of cuts and of what is assigned, and those by place.
module _ (Q : Label → Type 0) (P : Plan) (p : Point) (cuts : (i : ℕ) → OwnCut Q (cut_names P i)) (below : (i : ℕ) → count (p.stores i) ≤ (cut_names P i).number)
    (marks : (j : ℕ) (m : trees.Mark Label) → Memᴰ m (marks_of (p.marks j)) → Q m.name) where
  -- a term's label, whatever the bound names are
  abbrev pub Fits : Term → Type 0
  Fits t = (e : List Label) → Each Q e → Q (term_label p e t)

  pub translate_only : (b : Bool) (name : Places) (e : List Label) (f : Formula) → Each Fits (terms_in f) → Each Q (choices b name f) → Each Q e →
      Only Q (translate P b p name e f)
  unfolding translate terms_in choices Only
  translate_only b name e always h n k = tt
  translate_only b name e never h n k = tt
  translate_only b name e (equal t u) h n k = (h t (Memᴰ.head refl) e k, h u (Memᴰ.tail (Memᴰ.head refl)) e k)
  translate_only b name e (unequal t u) h n k = (h t (Memᴰ.head refl) e k, h u (Memᴰ.tail (Memᴰ.head refl)) e k)
  translate_only b name e (reaches i t u) h n k =
      literals_only Q b i 0 _
      (reaches_only Q (cut_names P i) (cuts i) (count (p.stores i)) (below i) _ _ (h t (Memᴰ.head refl) e k) (h u (Memᴰ.tail (Memᴰ.head refl)) e k))
  translate_only b name e (between i t u v) h n k =
      literals_only Q b i 0 _
      (between_only Q (cut_names P i) (cuts i) (count (p.stores i)) (below i) _ _ _ (h t (Memᴰ.head refl) e k) (h u (Memᴰ.tail (Memᴰ.head refl)) e k)
      (h v (Memᴰ.tail (Memᴰ.tail (Memᴰ.head refl))) e k))
  translate_only b name e (flag j t) h n k = literals_only Q true 0 j _ (flag_only Q (marks_of (p.marks j)) b _ (marks j) (h t (Memᴰ.head refl) e k))
  translate_only b name e (negation f) h n k = translate_only (not b) name e f h n k
  translate_only b name e (both f g) h n k =
      junction_only Q b _ _
      (translate_only b (left name) e f (each_left Fits (terms_in f) (terms_in g) h) (each_left Q (choices b (left name) f) _ n) k)
      (translate_only b (right name) e g (each_right Fits (terms_in f) (terms_in g) h) (each_right Q (choices b (left name) f) _ n) k)
  translate_only b name e (either f g) h n k =
      junction_only Q (not b) _ _
      (translate_only b (left name) e f (each_left Fits (terms_in f) (terms_in g) h) (each_left Q (choices b (left name) f) _ n) k)
      (translate_only b (right name) e g (each_right Fits (terms_in f) (terms_in g) h) (each_right Q (choices b (left name) f) _ n) k)
  translate_only b name e (implies f g) h n k =
      junction_only Q (not b) _ _
      (translate_only (not b) (left name) e f (each_left Fits (terms_in f) (terms_in g) h) (each_left Q (choices (not b) (left name) f) _ n) k)
      (translate_only b (right name) e g (each_right Fits (terms_in f) (terms_in g) h) (each_right Q (choices (not b) (left name) f) _ n) k)
  translate_only b name e (same f g) h n k =
      let hf = each_left Fits (terms_in f) (terms_in g) h in
      let hg = each_right Fits (terms_in f) (terms_in g) h in
      let yes_part = each_left Q (choices true (left name) f ++ choices b (right name) g) _ n in
      let no_part = each_right Q (choices true (left name) f ++ choices b (right name) g) _ n in (
        (
          translate_only true (left name) e f hf (each_left Q (choices true (left name) f) _ yes_part) k,
          translate_only b (right name) e g hg (each_right Q (choices true (left name) f) _ yes_part) k,
        ),
        (
          translate_only false (left name) e f hf (each_left Q (choices false (left name) f) _ no_part) k,
          translate_only (not b) (right name) e g hg (each_right Q (choices false (left name) f) _ no_part) k,
        ),
      )
  translate_only true name e (forall f) h n k = k
  translate_only false name e (forall f) h n k =
      translate_only false (left name) (name [] ∷ e) f h (λ l m. n l (Memᴰ.tail m)) (each_cons Q (name []) e (n (name []) (Memᴰ.head refl)) k)
