-- Rows that are marked, one after the other.
use Prim.Native.Nat.{ℕ, ◌+◌, ◌-◌, ◌^◌, ◌≤◌, ◌<◌}
use native.Mathlib.Omega.{arith}
use mathlib.Core.Path.{◌≡◌, refl, sym, ap, ◌∙◌, subst, fun_ext}
use mathlib.Core.Logic.{⊎_elim}
use mathlib.Core.Bool.{Bool, true, false, not, beq}
use mathlib.Core.List.{List}
use lib.ListN.{length, get_or, set, replicate}
use lib.Bits.{bit_and, bit_or, and_le_r}
use lib.Count.{count_trailing_zeros}
use lib.Dec.{eqb, ltb}
use borrow.Author.Tests.{lt-ltb, le-ltb, ltb-false, eqb-true, eqb-false, eq-eqb, ne_eqb}
use Rattle.logic.specs.Search.{◌and◌, ◌or◌, from, any}
use Rattle.logic.specs.Query.{Literal}
use Rattle.theory.proofs.Basics.Search.{true-false, not_of, and-false, and-true, or-false, any-true, any_intro, from_intro}
use Rattle.theory.proofs.Basics.Compare.{le_cases}
use Rattle.rows.specs.Bits.{bit}
use Rattle.rows.specs.Square.{row_of, square}
use Rattle.rows.proofs.Bits.{bit-and, bit-or, bit-none, lowest_set, lowest_in}
use Rattle.rows.proofs.Words.{bit_with, bit_as_it_was}
use Rattle.rows.proofs.Selections.{any_turn, any_end}
use Rattle.rows.proofs.Turning.{filled_bit}
use Rattle.rows.proofs.Fill.{Filled, filled_old, filled_more, filled_all}
use Rattle.rows.proofs.Square.{row_in, row_beyond, row_or, square_row, square_in, square_above, square_beside, set_same, set_other, nothing_held}
use Rattle.query.proofs.Literals.{listed, listed_next, any-listed_end}
use Rattle.units.specs.Marks.{Marked, stand_for, holds_apart, denies, gives, SaidOf, Spread, meet, oppose, barred}

or_assoc : (p q r : Bool) → (p or q) or r ≡ p or (q or r)
unfolding ◌or◌
or_assoc true q r = refl
or_assoc false q r = refl

and_comm : (p q : Bool) → p and q ≡ q and p
unfolding ◌and◌
and_comm true q = sym (and-true q)
and_comm false q = sym (and-false q)

-- a row is written, where it is one
pub row_marked : (rows : List ℕ) (a more : ℕ) → length rows ≡ 17 → a < 17 → Marked (set rows a (bit_or (get_or rows a 0) more)) rows a more
unfolding ◌and◌ ◌or◌
row_marked rows a more full h x y = rw (lt-ltb a 17 h) (go (eqb x a) refl)
  where
    go : (s : Bool) → eqb x a ≡ s → square (set rows a (bit_or (get_or rows a 0) more)) x y ≡ square rows x y or (s and row_of more y)
    go true f =
        rw (eqb-true x a f)
        (ap (λ (g : ℕ → Bool). g y) (set_same rows a _ full (omega arith))
        ∙ row_or (get_or rows a 0) more y
        ∙ rw (square_row rows a (omega arith)) refl)
    go false f = ap (λ (g : ℕ → Bool). g y) (set_other rows a _ x (eqb-false x a f)) ∙ sym (or-false (square rows x y))

pub row_kept : (rows : List ℕ) (a more : ℕ) → 17 ≤ a → Marked rows rows a more
unfolding ◌and◌
row_kept rows a more h x y = rw (le-ltb a 17 h) (sym (or-false (square rows x y)))

-- beside it the rows stay
pub kept_beside : (rows later : List ℕ) (a more : ℕ) → Marked later rows a more → (x : ℕ) → (x ≡ a → ⊥) → (y : ℕ) → square later x y ≡ square rows x y
unfolding ◌and◌
kept_beside rows later a more m x n y = m x y ∙ rw (ne_eqb x a n, and-false (ltb a 17)) (or-false (square rows x y))

-- the row of b alone, which a number above 16 has none of
abbrev Alone : ℕ → ℕ → Type 0
Alone w b = (i : ℕ) → bit w i ≡ (ltb b 17 and eqb i b)

-- the same in row a of other rows
abbrev MarkedOne : List ℕ → List ℕ → ℕ → ℕ → Type 0
MarkedOne later rows a b = (w : ℕ) × Alone w b × Marked later rows a w

-- the row of b alone in row a: of numbers up to 16 there is one mark more
pub one_more : (rows later : List ℕ) (a b : ℕ) → MarkedOne later rows a b → (x y : ℕ) → x ≤ 16 → y ≤ 16 → square later x y ≡ square rows x y or (eqb x a and eqb y b)
unfolding ◌and◌
one_more rows later a b (w, e, m) x y h k = m x y ∙ rw (row_in w y k, e y, within a x h, within b y k) refl
  where
    within : (b x : ℕ) → x ≤ 16 → ltb b 17 and eqb x b ≡ eqb x b
    within b x h = go (ltb b 17) refl
      where
        go : (t : Bool) → ltb b 17 ≡ t → t and eqb x b ≡ eqb x b
        go true f = refl
        go false f = let l = ltb-false b 17 f in sym (ne_eqb x b (λ g. omega arith))

-- The literals one after the other: what is marked, and what those from i on say, is what all say
module _ (says : ℕ → ℕ → Literal → Bool) (f : ℕ → Literal) (count : ℕ) where
  abbrev pub Telling : ℕ → List ℕ → Type 0
  Telling i out = (a b : ℕ) → a ≤ 16 → b ≤ 16 → (square out a b or any (says a b) (listed f count i)) ≡ any (says a b) (listed f count 0)

  abbrev Next : ℕ → List ℕ → List ℕ → Type 0
  Next i out later = Telling i out → Telling (i + 1) later

  pub telling_none : (k : ℕ) → Telling 0 (replicate k 0)
  unfolding ◌or◌
  telling_none k a b h l = rw (nothing_held k a b) refl

  pub telling_more : (i : ℕ) (out later : List ℕ) → i < count → ((a b : ℕ) → a ≤ 16 → b ≤ 16 → square later a b ≡ square out a b or says a b (f i)) → Next i out later
  unfolding any
  telling_more i out later h e t a b k l =
      ap (λ (s : Bool). s or any (says a b) (listed f count (i + 1))) (e a b k l)
      ∙ or_assoc (square out a b) (says a b (f i)) (any (says a b) (listed f count (i + 1)))
      ∙ ap (λ (ls : List Literal). square out a b or any (says a b) ls) (sym (listed_next f count i h))
      ∙ t a b k l

  pub telling_same : (i : ℕ) (out : List ℕ) → i < count → ((a b : ℕ) → says a b (f i) ≡ false) → Next i out out
  telling_same i out h e = telling_more i out out h (λ a b k l. rw (e a b) (sym (or-false (square out a b))))

  pub telling_all : (i : ℕ) (out : List ℕ) (ls : List Literal) → count ≤ i → ls ≡ listed f count 0 → Telling i out → SaidOf says ls out
  telling_all i out ls h e t a b k l =
      sym (or-false (square out a b))
      ∙ ap (λ (s : Bool). square out a b or s) (sym (any-listed_end f (says a b) count i h))
      ∙ t a b k l
      ∙ ap (any (says a b)) (sym e)

-- A literal is read: of a plain one nothing is marked
module _ (rep : ℕ → ℕ) (f : ℕ → Literal) (count i : ℕ) (h : i < count) (out o : List ℕ) where
  pub plain_apart : not (f i).plain ≡ false → o ≡ out → Next (holds_apart rep) f count i out o
  unfolding holds_apart ◌and◌
  plain_apart e same t = subst (Telling (holds_apart rep) f count (i + 1)) (sym same) (telling_same (holds_apart rep) f count i out h (λ a b. rw e refl) t)

  pub negated_apart : (f i).plain ≡ false → (p q : ℕ) → p ≡ rep (f i).left → q ≡ rep (f i).right → (mid later : List ℕ) → MarkedOne mid out p q →
      MarkedOne later mid q p → o ≡ later → Next (holds_apart rep) f count i out o
  unfolding holds_apart stand_for ◌and◌
  negated_apart e p q l r mid later first second same t =
      subst (Telling (holds_apart rep) f count (i + 1)) (sym same) (telling_more (holds_apart rep) f count i out later h turn t)
    where
      turn : (a b : ℕ) → a ≤ 16 → b ≤ 16 → square later a b ≡ square out a b or holds_apart rep a b (f i)
      turn a b k m =
          one_more mid later q p second a b k m
          ∙ ap (λ (s : Bool). s or (eqb a q and eqb b p)) (one_more out mid p q first a b k m)
          ∙ or_assoc (square out a b) (eqb a p and eqb b q) (eqb a q and eqb b p)
          ∙ rw (e, l, r) (ap (λ (s : Bool). square out a b or ((eqb a (rep (f i).left) and eqb b (rep (f i).right)) or s)) (and_comm (eqb a (rep (f i).right)) (eqb b (rep (f i).left))))

  module _ (k : ℕ) where
    pub plain_denied : not (f i).plain ≡ false → o ≡ out → Next (denies rep k) f count i out o
    unfolding denies ◌and◌
    plain_denied e same t = subst (Telling (denies rep k) f count (i + 1)) (sym same) (telling_same (denies rep k) f count i out h (λ a b. rw e refl) t)

    pub other_denied : ((f i).link ≡ k → ⊥) → o ≡ out → Next (denies rep k) f count i out o
    unfolding denies ◌and◌
    other_denied n same t = subst (Telling (denies rep k) f count (i + 1)) (sym same) (telling_same (denies rep k) f count i out h none t)
      where
        none : (a b : ℕ) → denies rep k a b (f i) ≡ false
        none a b = rw (ne_eqb (f i).link k n) (ap (λ (s : Bool). s and stand_for rep a b (f i)) (and-false (not (f i).plain)))

    pub negated_denied : (f i).plain ≡ false → (f i).link ≡ k → (p q : ℕ) → p ≡ rep (f i).left → q ≡ rep (f i).right → (later : List ℕ) →
        MarkedOne later out p q → o ≡ later → Next (denies rep k) f count i out o
    unfolding denies stand_for ◌and◌
    negated_denied e g p q l r later first same t =
        subst (Telling (denies rep k) f count (i + 1)) (sym same) (telling_more (denies rep k) f count i out later h turn t)
      where
        turn : (a b : ℕ) → a ≤ 16 → b ≤ 16 → square later a b ≡ square out a b or denies rep k a b (f i)
        turn a b u m = one_more out later p q first a b u m ∙ rw (e, eq-eqb (f i).link k g, l, r) refl

  -- and the same of data literals
  module _ (plain : Bool) where
    pub other_given : beq (f i).plain plain ≡ false → o ≡ out → Next (gives rep plain) f count i out o
    unfolding gives ◌and◌
    other_given e same t = subst (Telling (gives rep plain) f count (i + 1)) (sym same) (telling_same (gives rep plain) f count i out h (λ a b. rw e refl) t)

    pub field_given : beq (f i).plain plain ≡ true → (p q : ℕ) → p ≡ rep (f i).right → q ≡ (f i).left → (later : List ℕ) →
        MarkedOne later out p q → o ≡ later → Next (gives rep plain) f count i out o
    unfolding gives ◌and◌
    field_given e p q l r later first same t =
        subst (Telling (gives rep plain) f count (i + 1)) (sym same) (telling_more (gives rep plain) f count i out later h turn t)
      where
        turn : (a b : ℕ) → a ≤ 16 → b ≤ 16 → square later a b ≡ square out a b or gives rep plain a b (f i)
        turn a b u m = one_more out later p q first a b u m ∙ rw (e, l, r) refl

-- Three relations together, one row after the other
module _ (p q r : List ℕ) where
  abbrev pub Merging : ℕ → List ℕ → Type 0
  Merging x out = Filled (λ i j. square p i j or square q i j or square r i j) (square (replicate 17 0)) x (square out)

  pub merged_more : (x : ℕ) (out later : List ℕ) → x < 17 → Marked later out x (bit_or (bit_or (get_or p x 0) (get_or q x 0)) (get_or r x 0)) → Merging x out → Merging (x + 1) later
  unfolding ◌and◌ ◌or◌
  merged_more x out later h m t =
      filled_more _ _ x (square out) (square later)
      (fun_ext (λ y. m x y ∙ rw (lt-ltb x 17 h, eq-eqb x x refl, filled_old _ _ x (square out) t, nothing_held 17 x y) (row y)))
      (λ i n. fun_ext (kept_beside out later x _ m i n))
      t
    where
      row : (y : ℕ) → row_of (bit_or (bit_or (get_or p x 0) (get_or q x 0)) (get_or r x 0)) y ≡ (square p x y or square q x y or square r x y)
      row y =
          rw (square_row p x (omega arith), square_row q x (omega arith), square_row r x (omega arith))
          (row_or (bit_or (get_or p x 0) (get_or q x 0)) (get_or r x 0) y ∙ ap (λ (s : Bool). s or row_of (get_or r x 0) y) (row_or (get_or p x 0) (get_or q x 0) y))

  pub merged_all : (out : List ℕ) → Merging 17 out → (x y : ℕ) → square out x y ≡ (square p x y or square q x y or square r x y)
  unfolding ◌or◌
  merged_all out t x y = ap (λ (g : ℕ → ℕ → Bool). g x y) (filled_all _ _ 17 (square out) t (λ i h. fun_ext (above i h)))
    where
      above : (i : ℕ) → 17 ≤ i → (j : ℕ) → square (replicate 17 0) i j ≡ (square p i j or square q i j or square r i j)
      above i h j = rw (square_above (replicate 17 0) i j h, square_above p i j h, square_above q i j h, square_above r i j h) refl

-- More in each row of some, one row after the other
module _ (rows : List ℕ) (some more : ℕ) where
  abbrev pub Spreading : ℕ → List ℕ → Type 0
  Spreading a out = Filled (λ x y. square rows x y or (row_of some x and row_of more y)) (square rows) a (square out)

  pub spread_more : (a : ℕ) (out o : List ℕ) → a < 17 → length out ≡ 17 → bit some a ≡ true → o ≡ set out a (bit_or (get_or out a 0) more) → Spreading a out → Spreading (a + 1) o
  unfolding ◌and◌
  spread_more a out o h full e same t =
      let m = row_marked out a more full h in
      subst (Spreading (a + 1)) (sym same)
      (filled_more _ _ a (square out) _
      (fun_ext (λ y. m a y ∙ rw (lt-ltb a 17 h, eq-eqb a a refl, filled_old _ _ a (square out) t, row_in some a (omega arith), e) refl))
      (λ x n. fun_ext (kept_beside out _ a more m x n))
      t)

  pub spread_same : (a : ℕ) (out o : List ℕ) → a < 17 → bit some a ≡ false → o ≡ out → Spreading a out → Spreading (a + 1) o
  unfolding ◌and◌
  spread_same a out o h e same t =
      subst (Spreading (a + 1)) (sym same)
      (filled_more _ _ a (square out) (square out)
      (fun_ext (λ y. ap (λ (g : ℕ → Bool). g y) (filled_old _ _ a (square out) t) ∙ sym (rw (row_in some a (omega arith), e) (or-false (square rows a y)))))
      (λ x n. refl)
      t)

  pub spread_all : (out : List ℕ) → Spreading 17 out → Spread out rows some more
  unfolding ◌and◌
  spread_all out t x y = ap (λ (g : ℕ → ℕ → Bool). g x y) (filled_all _ _ 17 (square out) t (λ i h. fun_ext (λ j. sym (rw (row_beyond some i h) (or-false (square rows i j))))))

-- What two relations hold and two others do not, one row after the other
module _ (p q r s : List ℕ) where
  abbrev pub Left : ℕ → ℕ → Bool
  Left x y = (square p x y or square q x y) and not (square r x y or square s x y)

  abbrev LeftIn : ℕ → ℕ → Type 0
  LeftIn x w = (i : ℕ) → bit w i ≡ (bit (bit_or (get_or p x 0) (get_or q x 0)) i and not (bit (bit_or (get_or r x 0) (get_or s x 0)) i))

  abbrev pub Leaving : List ℕ → ℕ → List ℕ → Type 0
  Leaving first x out = Filled Left (square first) x (square out)

  pub left-more : (first : List ℕ) (x : ℕ) (out : List ℕ) (w : ℕ) → x < 17 → length out ≡ 17 → LeftIn x w → Leaving first x out → Leaving first (x + 1) (set out x w)
  unfolding ◌and◌ ◌or◌
  left-more first x out w h full e t = filled_more _ _ x (square out) _ (set_same out x w full (omega arith) ∙ fun_ext row) (set_other out x w) t
    where
      row : (y : ℕ) → row_of w y ≡ Left x y
      row y =
          ⊎_elim
          (λ k.
          let at : (o : List ℕ) → square o x y ≡ bit (get_or o x 0) y = λ o. square_in o x y (omega arith) k in
          row_in w y k ∙ e y ∙ rw (bit-or (get_or p x 0) (get_or q x 0) y, bit-or (get_or r x 0) (get_or s x 0) y, at p, at q, at r, at s) refl)
          (λ k. row_beyond w y k ∙ sym (rw (square_beside p x y k, square_beside q x y k) refl))
          (le_cases y 16)

  pub left_all : (first out : List ℕ) → Leaving first 17 out → (x y : ℕ) → square out x y ≡ Left x y
  unfolding ◌and◌ ◌or◌
  left_all first out t x y = ap (λ (g : ℕ → ℕ → Bool). g x y) (filled_all _ _ 17 (square out) t (λ i h. fun_ext (above i h)))
    where
      above : (i : ℕ) → 17 ≤ i → (j : ℕ) → square first i j ≡ Left i j
      above i h j = square_above first i j h ∙ sym (rw (square_above p i j h, square_above q i j h) refl)

-- Rows that have a number in common, as the word of what both have tells
meet-some : (v w : ℕ) → w < 2 ^ 32 → (bit_and v w ≡ 0 → ⊥) → meet v w ≡ true
unfolding meet
meet-some v w h n =
    let u = bit_and v w in
    let l = and_le_r v w in
    let t = count_trailing_zeros 32 u in
    let low = lowest_in 32 u (omega (arith, n)) (omega arith) in
    any_intro (λ i. bit v i and bit w i) t (from_intro 32 0 t (omega arith) (omega (arith, low))) (sym (bit-and v w t) ∙ lowest_set 32 u (omega (arith, n)) (omega arith))

meet-none : (v w : ℕ) → bit_and v w ≡ 0 → meet v w ≡ false
unfolding meet
meet-none v w e = not_of (λ h. let r = any-true (λ i. bit v i and bit w i) (from 32 0) h in true-false r.2 (sym (bit-and v w r.0) ∙ ap (λ (u : ℕ). bit u r.0) e ∙ bit-none r.0))

module _ (some : ℕ) (rows : List ℕ) where
  abbrev pub Having : ℕ → ℕ → Type 0
  Having b out = Filled (λ x. ltb x 17 and meet (get_or rows x 0) some) (bit 0) b (bit out)

  pub having_more : (b out o only : ℕ) → b < 17 → some < 2 ^ 32 → (bit_and (get_or rows b 0) some ≡ 0 → ⊥) → ((i : ℕ) → bit only i ≡ eqb i b) → o ≡ bit_or out only → Having b out → Having (b + 1) o
  unfolding ◌and◌
  having_more b out o only h fits n e same t =
      subst (Having (b + 1)) (sym same) (filled_bit _ b out (bit_or out only) true (sym (rw (lt-ltb b 17 h) (meet-some (get_or rows b 0) some fits n))) (λ i. bit_with out only b e i true refl) t)

  pub having_same : (b out o : ℕ) → b < 17 → bit_and (get_or rows b 0) some ≡ 0 → o ≡ out → Having b out → Having (b + 1) o
  unfolding ◌and◌
  having_same b out o h e same t =
      subst (Having (b + 1)) (sym same) (filled_bit _ b out out false (sym (rw (lt-ltb b 17 h) (meet-none (get_or rows b 0) some e))) (λ i. bit_as_it_was out b i false refl) t)

  pub having_all : (out : ℕ) → Having 17 out → (b : ℕ) → bit out b ≡ (ltb b 17 and meet (get_or rows b 0) some)
  unfolding ◌and◌
  having_all out t b = ap (λ (g : ℕ → Bool). g b) (filled_all _ _ 17 (bit out) t (λ x h. bit-none x ∙ sym (rw (le-ltb x 17 h) refl)))

-- nothing is in common with an empty row
meet-empty : (v w : ℕ) → w ≡ 0 → meet v w ≡ false
meet-empty v w e = meet-none v w (let l = and_le_r v w in omega arith)

-- Rows with what others oppose, one after the other
module _ (rows some other : List ℕ) where
  abbrev pub Opposing : ℕ → List ℕ → Type 0
  Opposing a out = Filled (λ x y. square rows x y or oppose some other x y) (square rows) a (square out)

  abbrev OpposedIn : ℕ → ℕ → Type 0
  OpposedIn a v = (y : ℕ) → bit v y ≡ (ltb y 17 and meet (get_or other y 0) (get_or some a 0))

  pub opposed_more : (a : ℕ) (out later o : List ℕ) (v : ℕ) → a < 17 → OpposedIn a v → Marked later out a v → o ≡ later → Opposing a out → Opposing (a + 1) o
  unfolding ◌and◌ oppose row_of
  opposed_more a out later o v h e m same t =
      subst (Opposing (a + 1)) (sym same)
      (filled_more _ _ a (square out) (square later)
      (fun_ext (λ y. m a y ∙ rw (lt-ltb a 17 h, eq-eqb a a refl, filled_old _ _ a (square out) t, e y) (ap (λ (s : Bool). square rows a y or s) (twice (ltb y 17) _))))
      (λ x n. fun_ext (kept_beside out later a v m x n))
      t)
    where
      twice : (p q : Bool) → p and (p and q) ≡ p and q
      twice true q = refl
      twice false q = refl

  pub opposed_same : (a : ℕ) (out o : List ℕ) → a < 17 → get_or some a 0 ≡ 0 → o ≡ out → Opposing a out → Opposing (a + 1) o
  unfolding ◌and◌ oppose
  opposed_same a out o h e same t =
      subst (Opposing (a + 1)) (sym same)
      (filled_more _ _ a (square out) (square out)
      (fun_ext (λ y.
      let none = meet-empty (get_or other y 0) (get_or some a 0) e in
      ap (λ (g : ℕ → Bool). g y) (filled_old _ _ a (square out) t) ∙ sym (rw (lt-ltb a 17 h, none, and-false (ltb y 17)) (or-false (square rows a y)))))
      (λ x n. refl)
      t)

  pub opposed_all : (out : List ℕ) → Opposing 17 out → (x y : ℕ) → square out x y ≡ (square rows x y or oppose some other x y)
  unfolding ◌and◌ oppose
  opposed_all out t x y = ap (λ (g : ℕ → ℕ → Bool). g x y) (filled_all _ _ 17 (square out) t (λ i h. fun_ext (λ j. sym (rw (le-ltb i 17 h) (or-false (square rows i j))))))

-- What is barred by the terms below t, and by those from t on, is all that is
module _ (reach denied : List ℕ) where
  abbrev bar : ℕ → ℕ → ℕ → Bool
  bar x y t = square reach t x and meet (get_or reach y 0) (get_or denied t 0)

  abbrev pub Barring : ℕ → (ℕ → ℕ → Bool) → Type 0
  Barring t g = (x y : ℕ) → x ≤ 16 → y ≤ 16 → (g x y or any (bar x y) (from (17 - t) t)) ≡ barred reach denied x y

  pub bars_none : (k : ℕ) → Barring 0 (square (replicate k 0)) × Barring 0 (λ x y. square (replicate k 0) y x)
  unfolding ◌or◌ barred
  bars_none k = (λ x y h l. rw (nothing_held k x y) refl, λ x y h l. rw (nothing_held k y x) refl)

  bars_more : (t : ℕ) (g g' : ℕ → ℕ → Bool) → t < 17 → ((x y : ℕ) → x ≤ 16 → y ≤ 16 → g' x y ≡ g x y or bar x y t) → Barring t g → Barring (t + 1) g'
  bars_more t g g' h e b x y k l =
      ap (λ (s : Bool). s or any (bar x y) (from (17 - (t + 1)) (t + 1))) (e x y k l)
      ∙ or_assoc (g x y) (bar x y t) (any (bar x y) (from (17 - (t + 1)) (t + 1)))
      ∙ ap (λ (s : Bool). g x y or s) (sym (any_turn (bar x y) 17 t h))
      ∙ b x y k l

  module _ (t : ℕ) (h : t < 17) (out o : List ℕ) where
    module _ (off : ℕ) (e : (y : ℕ) → bit off y ≡ (ltb y 17 and meet (get_or reach y 0) (get_or denied t 0))) (later : List ℕ) (same : o ≡ later) where
      off_in : (y : ℕ) → y ≤ 16 → row_of off y ≡ meet (get_or reach y 0) (get_or denied t 0)
      unfolding ◌and◌
      off_in y l = row_in off y l ∙ e y ∙ rw (lt-ltb y 17 (omega arith)) refl

      far_in : (x : ℕ) → row_of (get_or reach t 0) x ≡ square reach t x
      far_in x = sym (ap (λ (g : ℕ → Bool). g x) (square_row reach t (omega arith)))

      pub ahead_more : Spread later out (get_or reach t 0) off → Barring t (square out) → Barring (t + 1) (square o)
      ahead_more m b = bars_more t (square out) (square o) h (λ x y k l. ap (λ (r : List ℕ). square r x y) same ∙ m x y ∙ rw (far_in x, off_in y l) refl) b

      pub behind_more : Spread later out off (get_or reach t 0) → Barring t (λ x y. square out y x) → Barring (t + 1) (λ x y. square o y x)
      behind_more m b =
          bars_more t (λ x y. square out y x) (λ x y. square o y x) h turn b
        where
          turn : (x y : ℕ) → x ≤ 16 → y ≤ 16 → square o y x ≡ square out y x or bar x y t
          turn x y k l =
              ap (λ (r : List ℕ). square r y x) same
              ∙ m y x
              ∙ rw (far_in x, off_in y l) (ap (λ (s : Bool). square out y x or s) (and_comm (meet (get_or reach y 0) (get_or denied t 0)) (square reach t x)))

    module _ (none : get_or denied t 0 ≡ 0) (same : o ≡ out) where
      empty : (x y : ℕ) → bar x y t ≡ false
      empty x y = rw (meet-empty (get_or reach y 0) (get_or denied t 0) none) (and-false (square reach t x))

      pub ahead_same : Barring t (square out) → Barring (t + 1) (square o)
      ahead_same b = bars_more t (square out) (square o) h (λ x y k l. ap (λ (r : List ℕ). square r x y) same ∙ sym (rw (empty x y) (or-false (square out x y)))) b

      pub behind_same : Barring t (λ x y. square out y x) → Barring (t + 1) (λ x y. square o y x)
      behind_same b = bars_more t (λ x y. square out y x) (λ x y. square o y x) h (λ x y k l. ap (λ (r : List ℕ). square r y x) same ∙ sym (rw (empty x y) (or-false (square out y x)))) b

  pub bars_all : (t : ℕ) (g : ℕ → ℕ → Bool) → 17 ≤ t → Barring t g → (x y : ℕ) → x ≤ 16 → y ≤ 16 → g x y ≡ barred reach denied x y
  bars_all t g h b x y k l = sym (or-false (g x y)) ∙ ap (λ (s : Bool). g x y or s) (sym (any_end (bar x y) 17 t h)) ∙ b x y k l
