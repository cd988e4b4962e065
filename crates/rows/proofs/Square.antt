-- Rows read and written. Callers use these laws and know nothing of words.
use Prim.Native.Nat.{ℕ, ◌≤◌, ◌<◌}
use native.Mathlib.Omega.{arith}
use mathlib.Core.Path.{◌≡◌, refl, sym, ap, ◌∙◌, fun_ext}
use mathlib.Core.Bool.{Bool, true, false}
use mathlib.Core.List.{List}
use lib.ListN.{length, get_or, set, replicate}
use lib.Seq.{get_or-set_same, get_or-set_other}
use lib.Bits.{bit_or}
use lib.Dec.{ltb, eqb}
use borrow.Author.Tests.{lt-ltb, le-ltb, eqb-true, eqb-false, eq-eqb, ne_eqb, ltb-false}
use Rattle.logic.specs.Search.{◌and◌, ◌or◌, any}
use Rattle.logic.specs.Facts.{became}
use Rattle.theory.proofs.Basics.Count.{get_d_zeros}
use Rattle.rows.specs.Bits.{bit}
use Rattle.rows.specs.Square.{row_of, square, renamed_row}
use Rattle.rows.proofs.Bits.{bit-or, bit-none}

module _ (w : ℕ) where
  pub row_in : (b : ℕ) → b ≤ 16 → row_of w b ≡ bit w b
  unfolding row_of ◌and◌
  row_in b h = rw (lt-ltb b 17 (omega arith))

  pub row_beyond : (b : ℕ) → 17 ≤ b → row_of w b ≡ false
  unfolding row_of ◌and◌
  row_beyond b h = rw (le-ltb b 17 h)

pub row_none : (b : ℕ) → row_of 0 b ≡ false
unfolding row_of ◌and◌
row_none b = rw (bit-none b) (go (ltb b 17))
  where
    go : (t : Bool) → t and false ≡ false
    go true = refl
    go false = refl

pub row_or : (w v b : ℕ) → row_of (bit_or w v) b ≡ row_of w b or row_of v b
unfolding row_of ◌and◌ ◌or◌
row_or w v b = rw (bit-or w v b) (go (ltb b 17))
  where
    go : (t : Bool) → t and (bit w b or bit v b) ≡ (t and bit w b) or (t and bit v b)
    go true = refl
    go false = refl

-- the row of b alone
pub row_only : (w b : ℕ) → b ≤ 16 → ((i : ℕ) → bit w i ≡ eqb i b) → (i : ℕ) → row_of w i ≡ eqb i b
unfolding row_of ◌and◌
row_only w b h e i = rw (e i) (go (ltb i 17) refl)
  where
    go : (t : Bool) → ltb i 17 ≡ t → t and eqb i b ≡ eqb i b
    go true f = refl
    go false f = let l = ltb-false i 17 f in sym (ne_eqb i b (λ g. omega arith))

module _ (rows : List ℕ) where
  pub square_row : (x : ℕ) → x ≤ 16 → square rows x ≡ row_of (get_or rows x 0)
  unfolding square ◌and◌
  square_row x h = fun_ext (λ b. rw (lt-ltb x 17 (omega arith)))

  pub square_in : (x y : ℕ) → x ≤ 16 → y ≤ 16 → square rows x y ≡ bit (get_or rows x 0) y
  square_in x y h k = rw (square_row x h) (row_in (get_or rows x 0) y k)

  pub square_above : (x y : ℕ) → 17 ≤ x → square rows x y ≡ false
  unfolding square ◌and◌
  square_above x y h = rw (le-ltb x 17 h)

  pub square_beside : (x y : ℕ) → 17 ≤ y → square rows x y ≡ false
  unfolding square ◌and◌
  square_beside x y h = rw (row_beyond (get_or rows x 0) y h) (go (ltb x 17))
    where
      go : (t : Bool) → t and false ≡ false
      go true = refl
      go false = refl

-- where a row is written, the relation is changed there alone
module _ (rows : List ℕ) (a w : ℕ) where
  pub set_same : length rows ≡ 17 → a ≤ 16 → square (set rows a w) a ≡ row_of w
  set_same full h = square_row (set rows a w) a h ∙ ap row_of (get_or-set_same rows a w 0 (omega arith))

  pub set_other : (x : ℕ) → (x ≡ a → ⊥) → square (set rows a w) x ≡ square rows x
  unfolding square
  set_other x n = fun_ext (λ b. ap (λ (v : ℕ). ltb x 17 and row_of v b) (get_or-set_other rows a x w 0 n))

-- nothing is held
pub nothing_held : (k a b : ℕ) → square (replicate k 0) a b ≡ false
unfolding square ◌and◌
nothing_held k a b = rw (get_d_zeros k a, row_none b) (go (ltb a 17))
  where
    go : (t : Bool) → t and false ≡ false
    go true = refl
    go false = refl

-- a bit is added to a row
pub square-add : (rows : List ℕ) → length rows ≡ 17 → (a b w : ℕ) → a ≤ 16 → b ≤ 16 → ((i : ℕ) → bit w i ≡ eqb i b) →
    square (set rows a (bit_or (get_or rows a 0) w)) ≡ (λ x y. square rows x y or (eqb x a and eqb y b))
unfolding ◌and◌ ◌or◌
square-add rows full a b w h k e = fun_ext (λ x. fun_ext (λ y. go x y (eqb x a) refl))
  where
    none : (t : Bool) → t ≡ t or false
    none true = refl
    none false = refl

    go : (x y : ℕ) (s : Bool) → eqb x a ≡ s → square (set rows a (bit_or (get_or rows a 0) w)) x y ≡ square rows x y or (s and eqb y b)
    go x y true f =
        rw (eqb-true x a f)
        (ap (λ (g : ℕ → Bool). g y) (set_same rows a _ full h)
        ∙ row_or (get_or rows a 0) w y
        ∙ rw (row_only w b k e y, square_row rows a h))
    go x y false f = ap (λ (g : ℕ → Bool). g y) (set_other rows a _ x (eqb-false x a f)) ∙ none (square rows x y)

-- a row in which hi is replaced by lo
module _ (lo hi : ℕ) (below : lo < hi) (p : ℕ → Bool) where
  pub renamed_hi : (y : ℕ) → y ≡ hi → renamed_row lo hi p y ≡ false
  unfolding renamed_row became any
  renamed_hi y e = rw (eq-eqb y hi e)

  pub renamed_lo : (y : ℕ) → y ≡ lo → renamed_row lo hi p y ≡ p lo or p hi
  unfolding renamed_row became any ◌or◌
  renamed_lo y e = rw (ne_eqb y hi (omega arith), eq-eqb y lo e) (go (p lo) (p hi))
    where
      go : (s t : Bool) → s or (t or false) ≡ s or t
      go true t = refl
      go false true = refl
      go false false = refl

  pub renamed_else : (y : ℕ) → (y ≡ lo → ⊥) → (y ≡ hi → ⊥) → renamed_row lo hi p y ≡ p y
  unfolding renamed_row became any ◌or◌
  renamed_else y n m = rw (ne_eqb y hi m, ne_eqb y lo n) (go (p y))
    where
      go : (s : Bool) → s or false ≡ s
      go true = refl
      go false = refl

  -- whatever answers alike is the row renamed
  pub renamed_is : (q : ℕ → Bool) → ((y : ℕ) → y ≡ hi → q y ≡ false) → ((y : ℕ) → y ≡ lo → q y ≡ p lo or p hi) →
      ((y : ℕ) → (y ≡ lo → ⊥) → (y ≡ hi → ⊥) → q y ≡ p y) → (y : ℕ) → q y ≡ renamed_row lo hi p y
  renamed_is q high low other y = go (eqb y hi) refl (eqb y lo) refl
    where
      go : (t : Bool) → eqb y hi ≡ t → (u : Bool) → eqb y lo ≡ u → q y ≡ renamed_row lo hi p y
      go true k u l = let e = eqb-true y hi k in high y e ∙ sym (renamed_hi y e)
      go false k true l = let e = eqb-true y lo l in low y e ∙ sym (renamed_lo y e)
      go false k false l = let e = eqb-false y lo l in let f = eqb-false y hi k in other y e f ∙ sym (renamed_else y e f)
