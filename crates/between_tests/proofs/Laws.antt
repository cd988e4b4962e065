-- Laws of the tests, as the code's branches and loops meet them.
use Prim.Native.Nat.{ℕ, suc, ◌+◌, ◌-◌, ◌*◌, ◌/◌, ◌%◌, ◌≤◌, ◌<◌}
use native.Mathlib.Omega.{arith}
use native.Mathlib.Numerals.{add-one}
use native.Mathlib.Nat.{zero-add}
use native.Mathlib.Decide.{ℕ_discrete}
use mathlib.Core.Path.{◌≡◌, refl, sym, ap, ap₂, ◌∙◌, subst}
use mathlib.Core.Logic.{⊎_elim}
use mathlib.Core.Bool.{Bool, true, false, not, cond, beq, ◌&&◌, ◌||◌}
use mathlib.Core.List.{List}
use lib.ListN.{length, get_or, set}
use lib.Seq.{get_or-set_same, get_or-set_other, set_out}
use lib.Dec.{eqb, leb}
use borrow.Author.Tests.{eq-eqb, ne_eqb, leb-true}
use Rattle.logic.specs.Search.{from, any}
use Rattle.theory.proofs.Basics.Compare.{le_cases}
use Rattle.logic.specs.Query.{Literal, Entries, names_nil, argument_of, decode}
use Rattle.query.specs.declared.Layout.{Layout}
use Rattle.query.specs.LaysOut.{LaysOut, literal_in}
use Rattle.query.proofs.Literals.{listed, literals_are, entry_is}
use Rattle.heap_nodes.specs.Nodes.{node_of}
use Rattle.between.specs.Meaning.{BetweenLiteral}
use Rattle.between_search.specs.Tests.{step_count, steps, agrees, due_pair, due_triple, pair_breaks, triple_breaks, nil_breaks, says_field, has_field, opposed, field_breaks, is_fresh, used}
use Rattle.between_search.specs.Search.{entry}
use Rattle.between_search.proofs.Due.{first_of_lem, second_of}
use Rattle.between_tests.specs.Tables.{Small, MadeTo, literals_in}

-- The node of a term, by the term-to-node list

pub node-read : (nodes : List ℕ) (t r : ℕ) → (r ≡ node_of nodes t) × (r < 256) → r ≡ entry nodes t
unfolding node_of entry
node-read nodes t r h = h.0

-- a sign and what is held, as the code compares them
pub agrees_beq : (sign held : Bool) → beq sign held ≡ agrees sign held
unfolding agrees
agrees_beq true true = refl
agrees_beq true false = refl
agrees_beq false true = refl
agrees_beq false false = refl

-- Step counts

module _ (f : ℕ → ℕ) (w : ℕ) where
  pub steps_begin : (v : ℕ) → steps f v w ≡ 0 + step_count f (6 - 0) v w
  unfolding steps
  steps_begin v = sym (zero-add (step_count f 6 v w))

  pub steps-here : (k v : ℕ) → k < 6 → v ≡ w → k + step_count f (6 - k) v w ≡ k
  unfolding step_count
  steps-here k v h e = ap (λ (j : ℕ). k + step_count f j v w) left ∙ ap (λ (b : Bool). k + cond b 0 (suc (step_count f (6 - (k + 1)) (f v) w))) (eq-eqb v w e) ∙ omega arith
    where
      left : 6 - k ≡ suc (6 - (k + 1))
      left = omega arith

  pub steps_next : (k v u : ℕ) → k < 6 → (v ≡ w → ⊥) → u ≡ f v → k + step_count f (6 - k) v w ≡ (k + 1) + step_count f (6 - (k + 1)) u w
  unfolding step_count
  steps_next k v u h d e =
      ap (λ (j : ℕ). k + step_count f j v w) left
      ∙ ap (λ (b : Bool). k + cond b 0 (suc (step_count f (6 - (k + 1)) (f v) w))) (ne_eqb v w d)
      ∙ ap (λ (x : ℕ). k + suc (step_count f (6 - (k + 1)) x w)) (sym e)
      ∙ omega arith
    where
      left : 6 - k ≡ suc (6 - (k + 1))
      left = omega arith

  pub steps_end : (k v : ℕ) → 6 ≤ k → k ≤ 6 → k + step_count f (6 - k) v w ≡ 6
  unfolding step_count
  steps_end k v h u = ap (λ (j : ℕ). k + step_count f j v w) none ∙ omega arith
    where
      none : 6 - k ≡ 0
      none = omega arith

-- Tables of six rows

pub row_of : (v w : ℕ) → w ≤ 5 → (6 * v + w) / 6 ≡ v
row_of v w h = omega arith

pub column_of : (v w : ℕ) → w ≤ 5 → (6 * v + w) % 6 ≡ w
column_of v w h = omega arith

module _ {A : Type 0} (g : ℕ → ℕ → A) (d : A) where
  pub made_next : (table : List A) (i : ℕ) (a : A) → length table ≡ 36 → i < 36 → a ≡ g (i / 6) (i % 6) → MadeTo g d table i → MadeTo g d (set table i a) (i + 1)
  made_next table i a l x e m j h = elim (ℕ_discrete j i) [
    | yes q ↦ ap (λ (x : ℕ). get_or (set table i a) x d) q ∙ get_or-set_same table i a d (omega arith) ∙ e ∙ ap (λ (x : ℕ). g (x / 6) (x % 6)) (sym q)
    | no n ↦ get_or-set_other table i j a d n ∙ m j (omega arith)
  ]

  -- the entry of row v at w
  pub made_at : (table : List A) (v w : ℕ) (a : A) → length table ≡ 36 → v ≤ 5 → w ≤ 5 → a ≡ g v w → MadeTo g d table (6 * v + w) → MadeTo g d (set table (6 * v + w) a) (6 * v + (w + 1))
  made_at table v w a l r c e m j h =
      made_next table (6 * v + w) a l (omega arith) (e ∙ sym (ap₂ (λ (x y : ℕ). g x y) (row_of v w c) (column_of v w c))) m j (omega arith)

  pub made_all : (table : List A) (i : ℕ) → 36 ≤ i → MadeTo g d table i → (v w : ℕ) → v ≤ 5 → w ≤ 5 → get_or table (6 * v + w) d ≡ g v w
  made_all table i l m v w a b = m (6 * v + w) (omega arith) ∙ ap₂ (λ (x y : ℕ). g x y) (row_of v w b) (column_of v w b)

-- Literals that are due

module _ (a b t : ℕ) (h : due_pair a b t ≡ true) where
  pub pair_left : a ≤ t
  unfolding due_pair
  pair_left = leb-true a t (first_of_lem (leb a t) (leb b t) (first_of_lem (leb a t && leb b t) _ h))

  pub pair-right : b ≤ t
  unfolding due_pair
  pair-right = leb-true b t (second_of (leb a t) (leb b t) (first_of_lem (leb a t && leb b t) _ h))

module _ (x y z t : ℕ) (h : due_triple x y z t ≡ true) where
  pub triple_from : x ≤ t
  unfolding due_triple
  triple_from = leb-true x t (first_of_lem (leb x t) (leb y t) (first_of_lem (leb x t && leb y t) _ (first_of_lem ((leb x t && leb y t) && leb z t) _ h)))

  pub triple_middle : y ≤ t
  unfolding due_triple
  triple_middle = leb-true y t (second_of (leb x t) (leb y t) (first_of_lem (leb x t && leb y t) _ (first_of_lem ((leb x t && leb y t) && leb z t) _ h)))

  pub triple_to : z ≤ t
  unfolding due_triple
  triple_to = leb-true z t (second_of (leb x t && leb y t) _ (first_of_lem ((leb x t && leb y t) && leb z t) _ h))

module _ (link node : ℕ → ℕ) (most t : ℕ) (l : Literal) where
  pub pair-not_due : due_pair l.left l.right t ≡ false → false ≡ pair_breaks link node most t l
  unfolding pair_breaks
  pair-not_due h = rw h

  pub pair_due : (count : ℕ) → due_pair l.left l.right t ≡ true → count ≡ steps link (node l.left) (node l.right) → not (agrees l.plain (leb count most)) ≡ pair_breaks link node most t l
  unfolding pair_breaks
  pair_due count h e = rw (h, e)

module _ (link node : ℕ → ℕ) (t : ℕ) (l : BetweenLiteral) where
  pub triple_not_due : due_triple l.from l.middle l.to t ≡ false → false ≡ triple_breaks link node t l
  unfolding triple_breaks
  triple_not_due h = rw h

  pub triple_due : (y z : ℕ) → due_triple l.from l.middle l.to t ≡ true → y ≡ steps link (node l.from) (node l.middle) →
      z ≡ steps link (node l.from) (node l.to) → not (agrees l.plain (leb y z && leb z 5)) ≡ triple_breaks link node t l
  unfolding triple_breaks
  triple_due y z h e k = rw (h, e, k)

-- Sections

module _ (bytes : List ℕ) (at count : ℕ) where
  pub literals_begin : at + 3 * count ≤ length bytes → (p : Literal → Bool) → any p (literals_in bytes at count) ≡ any p (listed (literal_in bytes at) count 0)
  unfolding literals_in
  literals_begin h p = ap (any p) (literals_are bytes at count h)

  pub field_begin : at + 3 * count ≤ length bytes → (sign : Bool) (j t : ℕ) → has_field (literals_in bytes at count) sign j t ≡ any (says_field sign j t) (listed (literal_in bytes at) count 0)
  unfolding has_field
  field_begin h sign j t = literals_begin h (says_field sign j t)

-- Nil

module _ (query : List ℕ) (l : Layout) (laid : LaysOut l query) (t : ℕ) (one : 1 ≤ t) (n : t ≤ l.terms) where
  pub nil_is : eqb (get_or query t 0) 255 ≡ names_nil (decode query).entries t
  unfolding names_nil
  nil_is = ap (λ (x : ℕ). eqb x 255) (entry_is l query laid t one n)

  pub argument_nil : names_nil (decode query).entries t ≡ true → 0 ≡ argument_of (decode query).entries t
  unfolding argument_of
  argument_nil h = rw h

  pub argument_is : names_nil (decode query).entries t ≡ false → get_or query t 0 ≡ argument_of (decode query).entries t
  unfolding argument_of
  argument_is h = rw h (entry_is l query laid t one n)

module _ (entries : Entries) (link node : ℕ → ℕ) (t : ℕ) where
  pub no-nil : names_nil entries t ≡ false → false ≡ nil_breaks entries link node t
  unfolding nil_breaks
  no-nil h = rw h

  pub nil_moves : (v w : ℕ) → names_nil entries t ≡ true → v ≡ node t → w ≡ link v → (w ≡ v → ⊥) → true ≡ nil_breaks entries link node t
  unfolding nil_breaks
  nil_moves v w h e k d = rw (h, ne_eqb (link (node t)) (node t) (λ q. d (k ∙ ap link e ∙ q ∙ sym e)))

  pub nil_stays : (v w : ℕ) → names_nil entries t ≡ true → v ≡ node t → w ≡ link v → w ≡ v → any (λ u. names_nil entries u && not (eqb (node u) (node t))) (from t 1) ≡ nil_breaks entries link node t
  unfolding nil_breaks
  nil_stays v w h e k s = rw (h, eq-eqb (link (node t)) (node t) (ap link (sym e) ∙ sym k ∙ s ∙ e))

-- t numbers from 1 on, as a loop counts them
pub one_less : (t : ℕ) → t ≡ t + 1 - 1
one_less t = omega arith

pub any-from : (p : ℕ → Bool) (t : ℕ) → any p (from t 1) ≡ any p (from (t + 1 - 1) 1)
any-from p t = ap (λ (k : ℕ). any p (from k 1)) (one_less t)

-- Fresh nodes

module _ (f : ℕ → ℕ) where
  pub fresh_is : (t v : ℕ) (b : Bool) → v ≡ f t → any (λ x. eqb (f x) v) (from (t - 1) 1) ≡ b → not b ≡ is_fresh f t
  unfolding is_fresh
  fresh_is t v b e h = ap not (sym h) ∙ ap (λ (w : ℕ). not (any (λ x. eqb (f x) w) (from (t - 1) 1))) e

  pub used_more : (t c k : ℕ) → c ≡ used f t → k ≡ cond (is_fresh f (t + 1)) 1 0 → c + k ≡ used f (t + 1)
  unfolding used
  used_more t c k e h = rw add-one (ap₂ (λ (x y : ℕ). x + y) e (h ∙ ap (λ (x : ℕ). cond (is_fresh f x) 1 0) (add-one t)))

  pub used-none : 0 ≡ used f 0
  unfolding used
  used-none = refl

-- Fields

module _ (fields : List Literal) where
  pub opposed_begin : (a b : ℕ) → opposed fields a b ≡ any (λ j. has_field fields true j a && has_field fields false j b) (from (9 - 1) 1)
  unfolding opposed
  opposed_begin a b = refl

  pub breaks_begin : (node : ℕ → ℕ) (t v : ℕ) → v ≡ node t → field_breaks fields node t ≡ any (λ u. eqb (node u) v && (opposed fields u t || opposed fields t u)) (from (t + 1 - 1) 1)
  unfolding field_breaks
  breaks_begin node t v e = any-from _ t ∙ ap (λ (w : ℕ). any (λ u. eqb (node u) w && (opposed fields u t || opposed fields t u)) (from (t + 1 - 1) 1)) (sym e)

-- numbers of a table's rows
pub small_set : (xs : List ℕ) (i v : ℕ) → v ≤ 5 → Small xs → Small (set xs i v)
unfolding entry
small_set xs i v h s j = elim (ℕ_discrete j i) [
  | yes q ↦ ⊎_elim (λ l. subst (λ (x : ℕ). x ≤ 5) (sym (ap (λ (ys : List ℕ). get_or ys j 0) (set_out xs i v l))) (s j))
      (λ l. subst (λ (x : ℕ). x ≤ 5) (sym (ap (λ (x : ℕ). get_or (set xs i v) x 0) q ∙ get_or-set_same xs i v 0 l)) h) (le_cases (length xs) i)
  | no n ↦ subst (λ (x : ℕ). x ≤ 5) (sym (get_or-set_other xs i j v 0 n)) (s j)
]
