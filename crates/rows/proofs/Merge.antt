-- A replacement, one row after the other.
use Prim.Native.Nat.{ℕ, ◌+◌, ◌≤◌, ◌<◌}
use native.Mathlib.Omega.{arith}
use mathlib.Core.Path.{◌≡◌, refl, sym, ap, ap₂, ◌∙◌, fun_ext}
use mathlib.Core.Bool.{Bool, false}
use mathlib.Core.List.{List}
use lib.ListN.{length, get_or, set, length-set}
use lib.Bits.{bit_or}
use lib.Dec.{ltb}
use Rattle.logic.specs.Search.{◌and◌, ◌or◌}
use Rattle.logic.specs.Facts.{replace_in}
use Rattle.rows.specs.Bits.{bit}
use Rattle.rows.specs.Square.{row_of, square, renamed_row, columns, rows}
use Rattle.rows.proofs.Fill.{Filled, filled_old, filled_more, filled_all}
use Rattle.rows.proofs.Square.{row_in, row_none, row_or, square_row, set_same, set_other, renamed_hi, renamed_lo, renamed_else, renamed_is}

module _ (lo hi : ℕ) (below : lo < hi) (top : hi ≤ 16) where
  -- a word with the bits renamed is a row renamed
  row_renamed : (w v : ℕ) → bit w ≡ renamed_row lo hi (bit v) → row_of w ≡ renamed_row lo hi (row_of v)
  unfolding row_of
  row_renamed w v e =
      fun_ext
      (renamed_is lo hi below (row_of v) (row_of w)
      (λ y p. rw p (row_in w hi top ∙ at hi ∙ renamed_hi lo hi below (bit v) hi refl))
      (λ y p. rw p (row_in w lo (omega arith) ∙ at lo ∙ renamed_lo lo hi below (bit v) lo refl ∙ sym (ap₂ ◌or◌ (row_in v lo (omega arith)) (row_in v hi top))))
      (λ y p q. ap (λ (t : Bool). ltb y 17 and t) (at y ∙ renamed_else lo hi below (bit v) y p q)))
    where
      at : (y : ℕ) → bit w y ≡ renamed_row lo hi (bit v) y
      at y = ap (λ (g : ℕ → Bool). g y) e

  module _ (f : ℕ → ℕ → Bool) where
    -- row a is merged next
    pub merge_more : (a : ℕ) → a ≤ 16 → (cur : List ℕ) → length cur ≡ 17 → (w : ℕ) → bit w ≡ renamed_row lo hi (bit (get_or cur a 0)) →
        Filled (columns lo hi f) f a (square cur) → Filled (columns lo hi f) f (a + 1) (square (set cur a w))
    unfolding columns
    merge_more a h cur full w e m = filled_more _ _ a (square cur) _
        (set_same cur a w full h ∙ row_renamed w (get_or cur a 0) e ∙ ap (renamed_row lo hi) (sym (square_row cur a h) ∙ filled_old _ _ a (square cur) m))
        (set_other cur a w) m

    -- all rows are merged, and those above 16 hold nothing
    pub merge_all : (cur : ℕ → ℕ → Bool) → Filled (columns lo hi f) f 17 cur → ((x y : ℕ) → 17 ≤ x → f x y ≡ false) → cur ≡ columns lo hi f
    unfolding columns ◌or◌
    merge_all cur m empty = filled_all _ _ 17 cur m
        (λ x h. fun_ext (renamed_is lo hi below (f x) (f x) (λ y p. empty x y h) (λ y p. empty x y h ∙ sym (rw (empty x lo h, empty x hi h))) (λ y p q. refl)))

  -- the lower row gets both, and the higher none
  pub rows_merged : (cells : List ℕ) → length cells ≡ 17 → square (set (set cells lo (bit_or (get_or cells lo 0) (get_or cells hi 0))) hi 0) ≡ rows lo hi (square cells)
  unfolding rows
  rows_merged cells full = fun_ext
      (λ a. fun_ext (λ b. renamed_is lo hi below (λ x. square cells x b)
      (λ x. square (set (set cells lo (bit_or (get_or cells lo 0) (get_or cells hi 0))) hi 0) x b) (high b) (low b) (other b) a))
    where
      high : (b y : ℕ) → y ≡ hi → square (set (set cells lo (bit_or (get_or cells lo 0) (get_or cells hi 0))) hi 0) y b ≡ false
      high b y e = rw e (ap (λ (g : ℕ → Bool). g b) (set_same (set cells lo (bit_or (get_or cells lo 0) (get_or cells hi 0))) hi 0 (simp length-set full) top) ∙ row_none b)

      low : (b y : ℕ) → y ≡ lo → square (set (set cells lo (bit_or (get_or cells lo 0) (get_or cells hi 0))) hi 0) y b ≡ square cells lo b or square cells hi b
      low b y e =
          rw e
          (ap (λ (g : ℕ → Bool). g b) (set_other (set cells lo (bit_or (get_or cells lo 0) (get_or cells hi 0))) hi 0 lo (λ z. omega arith)
          ∙ set_same cells lo (bit_or (get_or cells lo 0) (get_or cells hi 0)) full (omega arith))
          ∙ row_or (get_or cells lo 0) (get_or cells hi 0) b
          ∙ sym (rw (square_row cells lo (omega arith), square_row cells hi top)))

      other : (b y : ℕ) → (y ≡ lo → ⊥) → (y ≡ hi → ⊥) → square (set (set cells lo (bit_or (get_or cells lo 0) (get_or cells hi 0))) hi 0) y b ≡ square cells y b
      other b y p q = ap (λ (g : ℕ → Bool). g b) (set_other (set cells lo (bit_or (get_or cells lo 0) (get_or cells hi 0))) hi 0 y q ∙ set_other cells lo (bit_or (get_or cells lo 0) (get_or cells hi 0)) y p)

-- first the columns, then the rows
pub replaced : (lo hi : ℕ) (f : ℕ → ℕ → Bool) → rows lo hi (columns lo hi f) ≡ replace_in lo hi f
unfolding rows columns renamed_row replace_in
replaced lo hi f = refl
