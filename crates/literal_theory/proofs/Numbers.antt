-- A formula over numbers says what the formula over labels says, numbers standing for the nodes of their labels.
use Prim.Native.Nat.{ℕ, suc, ◌-◌}
use native.Mathlib.Omega.{arith}
use mathlib.Core.Path.{◌≡◌, refl, sym, ap, ◌∙◌}
use mathlib.Core.Logic.{◌⊎◌, ⊎_elim}
use mathlib.Core.Bool.{Bool, true, false, not, cond, false≢true}
use mathlib.Core.List.{List, [], ◌∷◌, map, Memᴰ}
use lib.Dec.{eqb}
use lib.ListN.{get_or}
use Rattle.logic.specs.Search.{◌and◌, ◌or◌, select}
use Rattle.theory.proofs.Basics.Search.{bool_cases, and_left, and_right, and_intro, not_intro, select_intro}
use Rattle.theory.proofs.Basics.Compare.{eqb-true, eqb_self, cond-true}
use Rattle.routine_logic.specs.Syntax.{forall}
use Rattle.routine_logic.specs.State.{State}
use Rattle.routine_logic.specs.Formulas.{holds, same_truth}
use Rattle.path_theory.specs.Points.{Name, nil, initial, given, read, Stores, none, store, state_at}
use Rattle.literal_theory.specs.Labels.{Label, named, chosen, after}
use Rattle.literal_theory.specs.Forms.{Form, truth, equals, reach, next, bit, kept, meet, join, names_of, renamed, meets_form}
use Rattle.literal_theory.specs.Heaps.{start_state, given_nodes}
use Rattle.literal_theory.specs.Translation.{plan_of, case_form}
use Rattle.literal_theory.specs.Numbers.{same_name, same_stores, same_place, same_label, number_of, term_of, distinct, table_of, numbered, label_at}
use Rattle.literal_theory.specs.Claims.{NumbersExact}
use Rattle.literal_theory.proofs.Names.{each_only, meets_alike}

-- One label is another by the test, and only itself

mutual
  unfolding same_name same_stores

  name_same : (a b : Name) → same_name a b ≡ true → a ≡ b
  name_same nil nil h = refl
  name_same nil (initial y) h = absurd (false≢true h)
  name_same nil (given l) h = absurd (false≢true h)
  name_same nil (read j v b) h = absurd (false≢true h)
  name_same (initial x) nil h = absurd (false≢true h)
  name_same (initial x) (initial y) h = ap initial (eqb-true x y h)
  name_same (initial x) (given l) h = absurd (false≢true h)
  name_same (initial x) (read j v b) h = absurd (false≢true h)
  name_same (given k) nil h = absurd (false≢true h)
  name_same (given k) (initial y) h = absurd (false≢true h)
  name_same (given k) (given l) h = ap given (eqb-true k l h)
  name_same (given k) (read j v b) h = absurd (false≢true h)
  name_same (read i w a) nil h = absurd (false≢true h)
  name_same (read i w a) (initial y) h = absurd (false≢true h)
  name_same (read i w a) (given l) h = absurd (false≢true h)
  name_same (read i w a) (read j v b) h =
      let q = and_left (eqb i j and same_stores w v) _ h in
      ap (λ (n : ℕ). read n w a) (eqb-true i j (and_left _ _ q))
      ∙ ap (λ (z : Stores). read j z a) (stores_same w v (and_right (eqb i j) _ q))
      ∙ ap (read j v) (name_same a b (and_right (eqb i j and same_stores w v) _ h))

  stores_same : (w v : Stores) → same_stores w v ≡ true → w ≡ v
  stores_same none none h = refl
  stores_same none (store v c d) h = absurd (false≢true h)
  stores_same (store w a b) none h = absurd (false≢true h)
  stores_same (store w a b) (store v c d) h =
      let q = and_left (same_stores w v and same_name a c) _ h in
      ap (λ (z : Stores). store z a b) (stores_same w v (and_left _ _ q))
      ∙ ap (λ (n : Name). store v n b) (name_same a c (and_right (same_stores w v) _ q))
      ∙ ap (store v c) (name_same b d (and_right (same_stores w v and same_name a c) _ h))

mutual
  unfolding same_name same_stores

  name_self : (a : Name) → same_name a a ≡ true
  name_self nil = refl
  name_self (initial x) = eqb_self x
  name_self (given k) = eqb_self k
  name_self (read i w a) = and_intro (and_intro (eqb_self i) (stores_self w)) (name_self a)

  stores_self : (w : Stores) → same_stores w w ≡ true
  stores_self none = refl
  stores_self (store w a b) = and_intro (and_intro (stores_self w) (name_self a)) (name_self b)

truth_same : (b c : Bool) → same_truth b c ≡ true → b ≡ c
unfolding same_truth
truth_same true c h = sym h
truth_same false true h = absurd (false≢true h)
truth_same false false h = refl

truth_self : (b : Bool) → same_truth b b ≡ true
unfolding same_truth
truth_self true = refl
truth_self false = refl

place_same : (a d : List Bool) → same_place a d ≡ true → a ≡ d
unfolding same_place
place_same [] [] h = refl
place_same [] (c ∷ d) h = absurd (false≢true h)
place_same (b ∷ a) [] h = absurd (false≢true h)
place_same (b ∷ a) (c ∷ d) h = ap (λ (z : Bool). z ∷ a) (truth_same b c (and_left _ _ h)) ∙ ap (λ (z : List Bool). c ∷ z) (place_same a d (and_right (same_truth b c) _ h))

place_self : (a : List Bool) → same_place a a ≡ true
unfolding same_place
place_self [] = refl
place_self (b ∷ a) = and_intro (truth_self b) (place_self a)

label_same : (l m : Label) → same_label l m ≡ true → l ≡ m
unfolding same_label
label_same (named a) (named b) h = ap named (name_same a b h)
label_same (named a) (chosen l d) h = absurd (false≢true h)
label_same (named a) (after j v m) h = absurd (false≢true h)
label_same (chosen k a) (named b) h = absurd (false≢true h)
label_same (chosen k a) (chosen l d) h = ap (λ (n : ℕ). chosen n a) (eqb-true k l (and_left _ _ h)) ∙ ap (chosen l) (place_same a d (and_right (eqb k l) _ h))
label_same (chosen k a) (after j v m) h = absurd (false≢true h)
label_same (after i w l) (named b) h = absurd (false≢true h)
label_same (after i w l) (chosen k d) h = absurd (false≢true h)
label_same (after i w l) (after j v m) h =
    let q = and_left (eqb i j and same_stores w v) _ h in
    ap (λ (n : ℕ). after n w l) (eqb-true i j (and_left _ _ q))
    ∙ ap (λ (z : Stores). after j z l) (stores_same w v (and_right (eqb i j) _ q))
    ∙ ap (after j v) (label_same l m (and_right (eqb i j and same_stores w v) _ h))

label_self : (l : Label) → same_label l l ≡ true
unfolding same_label
label_self (named a) = name_self a
label_self (chosen k d) = and_intro (eqb_self k) (place_self d)
label_self (after i w l) = and_intro (and_intro (eqb_self i) (stores_self w)) (label_self l)

-- a label of a table stands at its number
number_at : (table : List Label) (l : Label) → Memᴰ l table → get_or table (number_of table l) (named nil) ≡ l
unfolding number_of
number_at [] l m = elim m [ ]
number_at (m ∷ ms) l (Memᴰ.head e) = ap (λ (n : ℕ). get_or (m ∷ ms) n (named nil)) (cond-true _ _ (ap (λ (z : Label). same_label z m) e ∙ label_self m)) ∙ sym e
number_at (m ∷ ms) l (Memᴰ.tail mem) = found (same_label l m) refl (number_at ms l mem)
  where
    found : (b : Bool) → same_label l m ≡ b → get_or ms (number_of ms l) (named nil) ≡ l → get_or (m ∷ ms) (cond b 0 (suc (number_of ms l))) (named nil) ≡ l
    found true e h = sym (label_same l m e)
    found false e h = h

pub label_at_lem : (table : List Label) (l : Label) → Memᴰ l table → label_at table (term_of table l) ≡ l
unfolding label_at term_of
label_at_lem table l mem =
    let n : ℕ = number_of table l in
    ap (λ (k : ℕ). get_or table k (named nil)) (let e : suc n - 1 ≡ n = omega arith in e) ∙ number_at table l mem

distinct-mem : (ls : List Label) (l : Label) → Memᴰ l ls → Memᴰ l (distinct ls)
unfolding distinct
distinct-mem [] l m = elim m [ ]
distinct-mem (m ∷ ms) l (Memᴰ.head e) = Memᴰ.head e
distinct-mem (m ∷ ms) l (Memᴰ.tail mem) = found (distinct-mem ms l mem) (bool_cases (same_label m l))
  where
    found : Memᴰ l (distinct ms) → (same_label m l ≡ true) ⊎ (same_label m l ≡ false) → Memᴰ l (m ∷ select (λ n. not (same_label m n)) (distinct ms))
    found at = ⊎_elim (λ e. Memᴰ.head (sym (label_same m l e))) (λ e. Memᴰ.tail (select_intro (λ n. not (same_label m n)) l at (not_intro e)))

-- other names for the same nodes
map-map : {A B C : Type 0} (f : B → C) (g : A → B) (xs : List A) → map f (map g xs) ≡ map (λ x. f (g x)) xs
map-map f g [] = refl
map-map f g (x ∷ xs) = ap (λ ys. f (g x) ∷ ys) (map-map f g xs)

pub meets_renamed : {A B : Type 0} (g s : State) (nodes : List ℕ) (node : B → ℕ) (r : A → B) (f : Form A) →
    meets_form g s nodes node (renamed r f) ≡ meets_form g s nodes (λ a. node (r a)) f
unfolding meets_form renamed
meets_renamed g s nodes node r (truth b) = refl
meets_renamed g s nodes node r (equals b x y) = refl
meets_renamed g s nodes node r (reach b i x y) = refl
meets_renamed g s nodes node r (next b i x y) = refl
meets_renamed g s nodes node r (bit b j x) = refl
meets_renamed g s nodes node r (kept p e f) = ap (λ (v : List ℕ). holds (state_at s nodes p) v (forall f)) (map-map node r e)
meets_renamed g s nodes node r (meet f h) =
    ap (λ (v : Bool). v and meets_form g s nodes node (renamed r h)) (meets_renamed g s nodes node r f) ∙ ap (meets_form g s nodes (λ a. node (r a)) f and◌) (meets_renamed g s nodes node r h)
meets_renamed g s nodes node r (join f h) =
    ap (λ (v : Bool). v or meets_form g s nodes node (renamed r h)) (meets_renamed g s nodes node r f) ∙ ap (meets_form g s nodes (λ a. node (r a)) f or◌) (meets_renamed g s nodes node r h)

-- by the table of a formula
table_meets : (g s : State) (nodes : List ℕ) (node : Label → ℕ) (f : Form Label) →
    meets_form g s nodes (λ n. node (label_at (table_of f) n)) (renamed (term_of (table_of f)) f) ≡ meets_form g s nodes node f
unfolding table_of
table_meets g s nodes node f =
    meets_renamed g s nodes (λ n. node (label_at (table_of f) n)) (term_of (table_of f)) f
    ∙ meets_alike g s nodes (λ l. node (label_at (table_of f) (term_of (table_of f) l))) node f
    (each_only (λ l. node (label_at (table_of f) (term_of (table_of f) l)) ≡ node l) f (λ l m. ap node (label_at_lem (table_of f) l (distinct-mem (named nil ∷ names_of f) l (Memᴰ.tail m)))))

pub numbers_exact : NumbersExact
unfolding numbered
numbers_exact =
    record {
      sound = λ flags links x g node m. table_meets g (start_state (plan_of x) node g) (given_nodes (plan_of x) node) node (case_form flags links x) ∙ m.met;
      complete = λ flags links x g is loop other null h.
          record {
            is_heap = is;
            null_link = loop;
            other_flag = other;
            nodes = λ l. is.variable_node _;
            null = ap g.variable (nil_number (case_form flags links x)) ∙ null;
            met = sym (meets_renamed g _ _ g.variable (term_of (table_of (case_form flags links x))) (case_form flags links x)) ∙ h;
          };
    }
  where
    nil_number : (f : Form Label) → term_of (table_of f) (named nil) ≡ 1
    nil_number f = unfold term_of table_of distinct number_of same_label same_name in refl
