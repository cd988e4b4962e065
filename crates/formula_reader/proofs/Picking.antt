-- The literals of a conjunction, by its number.
use Prim.Native.Nat.{ℕ, zero, suc, ◌+◌, ◌-◌, ◌*◌, ◌/◌, ◌%◌, ◌≤◌, ◌<◌}
use native.Mathlib.Omega.{arith}
use native.Mathlib.Nat.{suc-mul, zero-mul, mul-one, mul-le-mul, le_refl, div-add-mod', mod-lt, div-lt_iff_lt-mul, le_trans}
use mathlib.Core.Path.{◌≡◌, refl, sym, ap, ap₂, ◌∙◌, subst}
use mathlib.Core.Bool.{Bool, true, false}
use mathlib.Core.List.{List, [], ◌∷◌, ◌++◌, map}
use lib.ListN.{length, get_or, set, length-map, get_or-append}
use lib.Seq.{get_or-append-add, get_or-set_same, get_or-set_other}
use lib.Dec.{eqb}
use borrow.Author.Tests.{ltb-true, eqb-true, eqb-false}
use Rattle.logic.specs.Search.{◌and◌, ◌or◌, any, flat_map}
use Rattle.theory.proofs.Basics.Search.{true-false, or-false}
use Rattle.formula.specs.Grammar.{Letter, E, R, D, B, letter_byte, Formula, literal, both, either}
use Rattle.formula.specs.Expansion.{Conjunction, expand}
use Rattle.formula.specs.Meaning.{names, AllPresent}
use Rattle.formula_reader.specs.Tree.{letter_code, conjunctions, Tree, leaf, conjoined, disjoined}
use Rattle.formula_reader.specs.Marked.{marked, Marks, fits, Picks, Picked}
use Rattle.formula_reader.proofs.Laws.{cap_low}
use Rattle.formula_reader.proofs.Trees.{tree_count, expand_both, expand_either, expand-some}

-- Products by number

get_d_map_in : (f : Conjunction → Conjunction) (ds : List Conjunction) (r : ℕ) → r < length ds → get_or (map f ds) r [] ≡ f (get_or ds r [])
get_d_map_in f [] r h = absurd (omega arith)
get_d_map_in f (d ∷ ds) zero h = refl
get_d_map_in f (d ∷ ds) (suc r) h = get_d_map_in f ds r (omega arith)

abbrev products : List Conjunction → List Conjunction → List Conjunction
products cs ds = flat_map (λ c. map (λ d. c ++ d) ds) cs

product_at : (cs ds : List Conjunction) (q r : ℕ) → q < length cs → r < length ds → get_or (products cs ds) (q * length ds + r) [] ≡ get_or cs q [] ++ get_or ds r []
unfolding flat_map
product_at [] ds q r h l = absurd (omega arith)
product_at (c ∷ cs) ds zero r h l =
    ap (λ (j : ℕ). get_or (map (λ d. c ++ d) ds ++ products cs ds) j []) (ap (λ (x : ℕ). x + r) (zero-mul (length ds)) ∙ zero_plus r)
    ∙ get_or-append (map (λ d. c ++ d) ds) (products cs ds) [] r (subst (λ (n : ℕ). r < n) (sym (length-map ds (λ d. c ++ d))) l)
    ∙ get_d_map_in (λ d. c ++ d) ds r l
  where
    zero_plus : (x : ℕ) → 0 + x ≡ x
    zero_plus x = omega arith
product_at (c ∷ cs) ds (suc q) r h l =
    ap (λ (j : ℕ). get_or (map (λ d. c ++ d) ds ++ products cs ds) j [])
    (ap (λ (x : ℕ). x + r) (suc-mul q (length ds)) ∙ swap (q * length ds) (length ds) r ∙ ap (λ (n : ℕ). n + (q * length ds + r)) (sym (length-map ds (λ d. c ++ d))))
    ∙ get_or-append-add (map (λ d. c ++ d) ds) (products cs ds) (q * length ds + r) []
    ∙ product_at cs ds q r (omega arith) l
  where
    swap : (x y z : ℕ) → x + y + z ≡ y + (x + z)
    swap x y z = omega arith

expand_both_is : (f g : Formula) → expand (both f g) ≡ products (expand f) (expand g)
expand_both_is f g = unfold expand in refl

expand_either_is : (f g : Formula) → expand (either f g) ≡ expand f ++ expand g
expand_either_is f g = unfold expand in refl

-- What a conjunction of two names

or_assoc : (a b c : Bool) → (a or b) or c ≡ a or (b or c)
unfolding ◌or◌
or_assoc true b c = refl
or_assoc false b c = refl

names-append : (c d : Conjunction) (l : Letter) (n : ℕ) → names (c ++ d) l n ≡ names c l n or names d l n
unfolding names any
names-append [] d l n = unfold ◌or◌ in refl
names-append (x ∷ c) d l n = ap (λ (b : Bool). (eqb (letter_byte x.letter) (letter_byte l) and eqb x.place n) or b) (names-append c d l n)
    ∙ sym (or_assoc (eqb (letter_byte x.letter) (letter_byte l) and eqb x.place n) (names c l n) (names d l n))

pub marks_then : (before m after : List Bool) (c d : Conjunction) → Marks before c m → Marks m d after → Marks before (c ++ d) after
marks_then before m after c d h k l n b = k l n b ∙ ap (λ (x : Bool). x or names d l n) (h l n b)
    ∙ or_assoc (marked before l n) (names c l n) (names d l n) ∙ ap (λ (x : Bool). marked before l n or x) (sym (names-append c d l n))

-- A literal's mark

same_code : (a b : Letter) → letter_code a ≡ letter_code b → eqb (letter_byte a) (letter_byte b) ≡ true
unfolding letter_code letter_byte
same_code E E e = refl
same_code E R e = absurd (omega arith)
same_code E D e = absurd (omega arith)
same_code E B e = absurd (omega arith)
same_code R E e = absurd (omega arith)
same_code R R e = refl
same_code R D e = absurd (omega arith)
same_code R B e = absurd (omega arith)
same_code D E e = absurd (omega arith)
same_code D R e = absurd (omega arith)
same_code D D e = refl
same_code D B e = absurd (omega arith)
same_code B E e = absurd (omega arith)
same_code B R e = absurd (omega arith)
same_code B D e = absurd (omega arith)
same_code B B e = refl

code_same : (a b : Letter) → eqb (letter_byte a) (letter_byte b) ≡ true → letter_code a ≡ letter_code b
unfolding letter_code letter_byte
code_same E E e = refl
code_same E R e = absurd (let z : 69 ≡ 82 = eqb-true 69 82 e in omega arith)
code_same E D e = absurd (let z : 69 ≡ 68 = eqb-true 69 68 e in omega arith)
code_same E B e = absurd (let z : 69 ≡ 66 = eqb-true 69 66 e in omega arith)
code_same R E e = absurd (let z : 82 ≡ 69 = eqb-true 82 69 e in omega arith)
code_same R R e = refl
code_same R D e = absurd (let z : 82 ≡ 68 = eqb-true 82 68 e in omega arith)
code_same R B e = absurd (let z : 82 ≡ 66 = eqb-true 82 66 e in omega arith)
code_same D E e = absurd (let z : 68 ≡ 69 = eqb-true 68 69 e in omega arith)
code_same D R e = absurd (let z : 68 ≡ 82 = eqb-true 68 82 e in omega arith)
code_same D D e = refl
code_same D B e = absurd (let z : 68 ≡ 66 = eqb-true 68 66 e in omega arith)
code_same B E e = absurd (let z : 66 ≡ 69 = eqb-true 66 69 e in omega arith)
code_same B R e = absurd (let z : 66 ≡ 82 = eqb-true 66 82 e in omega arith)
code_same B D e = absurd (let z : 66 ≡ 68 = eqb-true 66 68 e in omega arith)
code_same B B e = refl

code_bound : (l : Letter) → letter_code l ≤ 3
unfolding letter_code
code_bound E = omega arith
code_bound R = omega arith
code_bound D = omega arith
code_bound B = omega arith

or-true : (b : Bool) → b or true ≡ true
unfolding ◌or◌
or-true true = refl
or-true false = refl

pub marks_one : (marks : List Bool) (l : Letter) (n : ℕ) → length marks ≡ 256 → n < 64 → Marks marks (record { letter = l; place = n } ∷ []) (set marks (64 * letter_code l + n) true)
marks_one marks l n e h l' n' h' = go (eqb (letter_byte l) (letter_byte l')) refl (eqb n n') refl
  where
    is_named : eqb (letter_byte l) (letter_byte l') ≡ true → eqb n n' ≡ true → names (record { letter = l; place = n } ∷ []) l' n' ≡ true
    is_named x y = unfold names any ◌and◌ ◌or◌ in rw (x, y) refl

    not-place : eqb (letter_byte l) (letter_byte l') ≡ true → eqb n n' ≡ false → names (record { letter = l; place = n } ∷ []) l' n' ≡ false
    not-place x y = unfold names any ◌and◌ ◌or◌ in rw (x, y) refl

    not_letter : eqb (letter_byte l) (letter_byte l') ≡ false → names (record { letter = l; place = n } ∷ []) l' n' ≡ false
    not_letter x = unfold names any ◌and◌ ◌or◌ in rw x refl

    go : (p : Bool) → eqb (letter_byte l) (letter_byte l') ≡ p → (q : Bool) → eqb n n' ≡ q →
        marked (set marks (64 * letter_code l + n) true) l' n' ≡ marked marks l' n' or names (record { letter = l; place = n } ∷ []) l' n'
    go true x true y =
        let c : letter_code l ≡ letter_code l' = code_same l l' x in
        let d : n ≡ n' = eqb-true n n' y in
        ap (λ (j : ℕ). get_or (set marks (64 * letter_code l + n) true) j false) (same c d)
        ∙ get_or-set_same marks (64 * letter_code l + n) true false (inside (code_bound l))
        ∙ sym (ap (λ (b : Bool). marked marks l' n' or b) (is_named x y) ∙ or-true (marked marks l' n'))
      where
        same : letter_code l ≡ letter_code l' → n ≡ n' → 64 * letter_code l' + n' ≡ 64 * letter_code l + n
        same c d = omega arith

        inside : letter_code l ≤ 3 → 64 * letter_code l + n < length marks
        inside b = omega arith
    go true x false y =
        get_or-set_other marks (64 * letter_code l + n) (64 * letter_code l' + n') true false (λ z. eqb-false n n' y (let c : letter_code l ≡ letter_code l' = code_same l l' x in omega arith))
        ∙ sym (ap (λ (b : Bool). marked marks l' n' or b) (not-place x y) ∙ or-false (marked marks l' n'))
    go false x q y =
        get_or-set_other marks (64 * letter_code l + n) (64 * letter_code l' + n') true false (λ z. true-not x (same_code l l' (codes z)))
        ∙ sym (ap (λ (b : Bool). marked marks l' n' or b) (not_letter x) ∙ or-false (marked marks l' n'))
      where
        codes : 64 * letter_code l' + n' ≡ 64 * letter_code l + n → letter_code l ≡ letter_code l'
        codes z = omega arith

        true-not : {b : Bool} → b ≡ false → b ≡ true → ⊥
        true-not p r = true-false r p

-- The node of a formula, by its kind

pub record Leaf (nodes : List ℕ) (i : ℕ) (f : Formula) : Type 0 where
  pub letter : Letter
  pub place : ℕ
  pub is : f ≡ literal letter place
  pub code_is : get_or nodes (4 * i) 0 ≡ letter_code letter
  pub place_is : get_or nodes (4 * i + 1) 0 ≡ place

pub record Joined (nodes : List ℕ) (i : ℕ) (join : Formula → Formula → Formula) (f : Formula) : Type 0 where
  pub left : Formula
  pub right : Formula
  pub is : f ≡ join left right
  pub first_below : get_or nodes (4 * i + 1) 0 < i
  pub second_below : get_or nodes (4 * i + 2) 0 < i
  pub first_tree : Tree nodes (get_or nodes (4 * i + 1) 0) left
  pub second_tree : Tree nodes (get_or nodes (4 * i + 2) 0) right

pub at_leaf : {nodes : List ℕ} {i : ℕ} {f : Formula} → Tree nodes i f → get_or nodes (4 * i) 0 < 4 → Leaf nodes i f
at_leaf (leaf l n e) h = record { letter = l; place = n; is = refl; code_is = e.kind_is; place_is = e.first_is }
at_leaf (conjoined a b e la lb ta tb) h = absurd (omega (arith, e.kind_is))
at_leaf (disjoined a b e la lb ta tb) h = absurd (omega (arith, e.kind_is))

pub at_both : {nodes : List ℕ} {i : ℕ} {f : Formula} → Tree nodes i f → get_or nodes (4 * i) 0 ≡ 4 → Joined nodes i both f
at_both (leaf l n e) h = absurd (omega (arith, e.kind_is, code_bound l))
at_both {nodes} {i} (conjoined {f = f} {g = g} a b e la lb ta tb) h = record {
  left = f;
  right = g;
  is = refl;
  first_below = subst (λ (x : ℕ). x < i) (sym e.first_is) la;
  second_below = subst (λ (x : ℕ). x < i) (sym e.second_is) lb;
  first_tree = subst (λ (x : ℕ). Tree nodes x f) (sym e.first_is) ta;
  second_tree = subst (λ (x : ℕ). Tree nodes x g) (sym e.second_is) tb;
}
at_both (disjoined a b e la lb ta tb) h = absurd (omega (arith, e.kind_is))

pub at_either : {nodes : List ℕ} {i : ℕ} {f : Formula} → Tree nodes i f → 4 ≤ get_or nodes (4 * i) 0 → (get_or nodes (4 * i) 0 ≡ 4 → ⊥) → Joined nodes i either f
at_either (leaf l n e) h k = absurd (omega (arith, e.kind_is, code_bound l))
at_either (conjoined a b e la lb ta tb) h k = absurd (k e.kind_is)
at_either {nodes} {i} (disjoined {f = f} {g = g} a b e la lb ta tb) h k = record {
  left = f;
  right = g;
  is = refl;
  first_below = subst (λ (x : ℕ). x < i) (sym e.first_is) la;
  second_below = subst (λ (x : ℕ). x < i) (sym e.second_is) lb;
  first_tree = subst (λ (x : ℕ). Tree nodes x f) (sym e.first_is) ta;
  second_tree = subst (λ (x : ℕ). Tree nodes x g) (sym e.second_is) tb;
}

module _ {nodes : List ℕ} {i k : ℕ} {f : Formula} (p : Picks nodes i k f) where
  abbrev a : ℕ
  a = get_or nodes (4 * i + 1) 0

  abbrev b : ℕ
  b = get_or nodes (4 * i + 2) 0

  abbrev fast : ℕ
  fast = get_or nodes (4 * b + 3) 0

  abbrev first : ℕ
  first = get_or nodes (4 * a + 3) 0

  -- a literal
  module _ (h : get_or nodes (4 * i) 0 < 4) where
    leaf-place : a < 64
    leaf-place = let l = at_leaf p.tree h in subst (λ (x : ℕ). x < 64) (sym l.place_is) (small l.letter l.place (subst (AllPresent fits) l.is p.marks_fit))
      where
        small : (x : Letter) (n : ℕ) → AllPresent fits (literal x n) → n < 64
        small x n q = ltb-true n 64 (unfold AllPresent in q)

    pub leaf_inside : 64 * get_or nodes (4 * i) 0 + a < 256
    leaf_inside = let l = at_leaf p.tree h in let q : a < 64 = leaf-place in omega arith

    pub leaf-marks : (marks : List Bool) → length marks ≡ 256 → Marks marks (get_or (expand f) k []) (set marks (64 * get_or nodes (4 * i) 0 + a) true)
    leaf-marks marks e =
        let l = at_leaf p.tree h in
        subst (λ (c : Conjunction). Marks marks c (set marks (64 * get_or nodes (4 * i) 0 + a) true)) (sym (chosen l.letter l.place f k l.is p.below))
        (subst (λ (j : ℕ). Marks marks (record { letter = l.letter; place = l.place } ∷ []) (set marks j true)) (ap₂ (λ (x y : ℕ). 64 * x + y) (sym l.code_is) (sym l.place_is))
        (marks_one marks l.letter l.place e (subst (λ (x : ℕ). x < 64) l.place_is leaf-place)))
      where
        chosen : (x : Letter) (n : ℕ) (g : Formula) (j : ℕ) → g ≡ literal x n → j < length (expand g) → get_or (expand g) j [] ≡ record { letter = x; place = n } ∷ []
        chosen x n g j e q = ap (λ (y : Formula). get_or (expand y) j []) e ∙ only j (subst (λ (y : Formula). j < length (expand y)) e q)
          where
            only : (m : ℕ) → m < length (expand (literal x n)) → get_or (expand (literal x n)) m [] ≡ record { letter = x; place = n } ∷ []
            only zero r = unfold expand in refl
            only (suc m) r = absurd (unfold expand in omega arith)

  -- an and: "varies its right side fastest"
  module _ (j : Joined nodes i both f) where
    both_few : (length (expand j.left) * length (expand j.right) ≤ 64) × (k < length (expand j.left) * length (expand j.right))
    both_few = let e : length (expand f) ≡ length (expand j.left) * length (expand j.right) = ap (λ (g : Formula). length (expand g)) j.is
        ∙ expand_both j.left j.right in
        (subst (λ (n : ℕ). n ≤ 64) e p.few, subst (λ (n : ℕ). k < n) e p.below)

    both_present : AllPresent fits j.left × AllPresent fits j.right
    both_present = unfold AllPresent in subst (AllPresent fits) j.is p.marks_fit

    right_few : length (expand j.right) ≤ 64
    right_few = factor (length (expand j.left)) (length (expand j.right)) (expand-some j.left) both_few.0
      where
        factor : (x y : ℕ) → 1 ≤ x → x * y ≤ 64 → y ≤ 64
        factor zero y h l = absurd (omega arith)
        factor (suc x) y h l = let e : suc x * y ≡ x * y + y = suc-mul x y in omega arith

    left_few : length (expand j.left) ≤ 64
    left_few = factor (length (expand j.left)) (length (expand j.right)) (expand-some j.right) both_few.0
      where
        factor : (x y : ℕ) → 1 ≤ y → x * y ≤ 64 → x ≤ 64
        factor x y h l = le_trans (subst (λ (m : ℕ). m ≤ x * y) (mul-one x) (mul-le-mul (le_refl x) h)) l

    pub fast-is : fast ≡ length (expand j.right)
    fast-is = tree_count j.second_tree ∙ (unfold conjunctions in cap_low (length (expand j.right)) right_few)

    pub fast-some : 0 < fast
    fast-some = subst (λ (n : ℕ). 0 < n) (sym fast-is) (expand-some j.right)

    pub picks_left : Picks nodes a (k / fast) j.left
    picks_left = record {
      tree = j.first_tree;
      marks_fit = both_present.0;
      few = left_few;
      below = (div-lt_iff_lt-mul fast-some).1 (subst (λ (n : ℕ). k < length (expand j.left) * n) (sym fast-is) both_few.1);
      placed = let q : a < i = j.first_below in
          let r : i < 512 = p.placed in
          omega arith;
    }

    pub picks_right : Picks nodes b (k % fast) j.right
    picks_right = record {
      tree = j.second_tree;
      marks_fit = both_present.1;
      few = right_few;
      below = subst (λ (n : ℕ). k % fast < n) fast-is (mod-lt k fast-some);
      placed = let q : b < i = j.second_below in
          let r : i < 512 = p.placed in
          omega arith;
    }

    pub both_marks : (before m after : List Bool) → Marks before (get_or (expand j.left) (k / fast) []) m →
        Marks m (get_or (expand j.right) (k % fast) []) after → Marks before (get_or (expand f) k []) after
    both_marks before m after h l = subst (λ (c : Conjunction). Marks before c after) (sym chosen)
        (marks_then before m after (get_or (expand j.left) (k / fast) []) (get_or (expand j.right) (k % fast) []) h l)
      where
        number : k ≡ k / fast * length (expand j.right) + k % fast
        number = sym (div-add-mod' k fast) ∙ ap (λ (n : ℕ). k / fast * n + k % fast) fast-is

        chosen : get_or (expand f) k [] ≡ get_or (expand j.left) (k / fast) [] ++ get_or (expand j.right) (k % fast) []
        chosen = ap (λ (g : Formula). get_or (expand g) k []) j.is
            ∙ ap (λ (cs : List Conjunction). get_or cs k []) (expand_both_is j.left j.right)
            ∙ ap (λ (x : ℕ). get_or (products (expand j.left) (expand j.right)) x []) number
            ∙ product_at (expand j.left) (expand j.right) (k / fast) (k % fast) picks_left.below picks_right.below

    module _ (n : ℕ) (e : n ≡ fast) where
      pub divides : 0 < n
      divides = subst (λ (x : ℕ). 0 < x) (sym e) fast-some

      pub left_at : Picks nodes a (k / n) j.left
      left_at = subst (λ (x : ℕ). Picks nodes a (k / x) j.left) (sym e) picks_left

      pub right_at : Picks nodes b (k % n) j.right
      right_at = subst (λ (x : ℕ). Picks nodes b (k % x) j.right) (sym e) picks_right

      pub both_at : (before m after : List Bool) → Picked nodes a (k / n) before m → Picked nodes b (k % n) m after → Marks before (get_or (expand f) k []) after
      both_at before m after h l = both_marks before m after
          (subst (λ (x : ℕ). Marks before (get_or (expand j.left) (k / x) []) m) e (h.1 j.left left_at))
          (subst (λ (x : ℕ). Marks m (get_or (expand j.right) (k % x) []) after) e (l.1 j.right right_at))

  -- an or: "Alternatives expand left first"
  module _ (j : Joined nodes i either f) where
    either_few : (length (expand j.left) + length (expand j.right) ≤ 64) × (k < length (expand j.left) + length (expand j.right))
    either_few = let e : length (expand f) ≡ length (expand j.left) + length (expand j.right) = ap (λ (g : Formula). length (expand g)) j.is
        ∙ expand_either j.left j.right in
        (subst (λ (n : ℕ). n ≤ 64) e p.few, subst (λ (n : ℕ). k < n) e p.below)

    either_present : AllPresent fits j.left × AllPresent fits j.right
    either_present = unfold AllPresent in subst (AllPresent fits) j.is p.marks_fit

    first_is : first ≡ length (expand j.left)
    first_is = tree_count j.first_tree ∙ (unfold conjunctions in
        cap_low (length (expand j.left)) (let h : length (expand j.left) + length (expand j.right) ≤ 64 = either_few.0 in omega arith))

    pub picks_first : k < first → Picks nodes a k j.left
    picks_first h = record {
      tree = j.first_tree;
      marks_fit = either_present.0;
      few = (let q : length (expand j.left) + length (expand j.right) ≤ 64 = either_few.0 in omega arith);
      below = subst (λ (n : ℕ). k < n) first_is h;
      placed = let q : a < i = j.first_below in
          let r : i < 512 = p.placed in
          omega arith;
    }

    pub picks_second : first ≤ k → Picks nodes b (k - first) j.right
    picks_second h = record {
      tree = j.second_tree;
      marks_fit = either_present.1;
      few = (let q : length (expand j.left) + length (expand j.right) ≤ 64 = either_few.0 in omega arith);
      below = (let q : k < length (expand j.left) + length (expand j.right) = either_few.1 in
          let e : first ≡ length (expand j.left) = first_is in omega arith);
      placed = let q : b < i = j.second_below in
          let r : i < 512 = p.placed in
          omega arith;
    }

    pub first_marks : (before after : List Bool) → k < first → Marks before (get_or (expand j.left) k []) after → Marks before (get_or (expand f) k []) after
    first_marks before after h m = subst (λ (c : Conjunction). Marks before c after)
        (sym (ap (λ (g : Formula). get_or (expand g) k []) j.is ∙ ap (λ (cs : List Conjunction). get_or cs k []) (expand_either_is j.left j.right)
        ∙ get_or-append (expand j.left) (expand j.right) [] k (subst (λ (n : ℕ). k < n) first_is h))) m

    pub second_marks : (before after : List Bool) → first ≤ k → Marks before (get_or (expand j.right) (k - first) []) after → Marks before (get_or (expand f) k []) after
    second_marks before after h m = subst (λ (c : Conjunction). Marks before c after)
        (sym (ap (λ (g : Formula). get_or (expand g) k []) j.is ∙ ap (λ (cs : List Conjunction). get_or cs k []) (expand_either_is j.left j.right)
        ∙ ap (λ (x : ℕ). get_or (expand j.left ++ expand j.right) x []) number ∙ get_or-append-add (expand j.left) (expand j.right) (k - first) [])) m
      where
        number : k ≡ length (expand j.left) + (k - first)
        number = let e : first ≡ length (expand j.left) = first_is in omega arith

    module _ (n : ℕ) (e : n ≡ first) where
      pub first_at : k < n → Picks nodes a k j.left
      first_at h = picks_first (subst (λ (x : ℕ). k < x) e h)

      pub second_at : n ≤ k → Picks nodes b (k - n) j.right
      second_at h = subst (λ (x : ℕ). Picks nodes b (k - x) j.right) (sym e) (picks_second (subst (λ (x : ℕ). x ≤ k) e h))

      pub first_picked : (before after : List Bool) → k < n → Picked nodes a k before after → Marks before (get_or (expand f) k []) after
      first_picked before after h q = first_marks before after (subst (λ (x : ℕ). k < x) e h) (q.1 j.left (first_at h))

      pub second_picked : (before after : List Bool) → n ≤ k → Picked nodes b (k - n) before after → Marks before (get_or (expand f) k []) after
      second_picked before after h q = second_marks before after (subst (λ (x : ℕ). x ≤ k) e h)
          (subst (λ (x : ℕ). Marks before (get_or (expand j.right) (k - x) []) after) e (q.1 j.right (second_at h)))
