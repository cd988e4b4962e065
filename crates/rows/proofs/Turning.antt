-- A word filled bit by bit, and a relation turned round column by column.
use Prim.Native.Nat.{ℕ, ◌+◌, ◌≤◌}
use mathlib.Core.Path.{◌≡◌, refl, sym, ap, ◌∙◌, fun_ext}
use mathlib.Core.Bool.{Bool, true, false}
use mathlib.Core.List.{List}
use lib.ListN.{length, get_or, set}
use lib.Dec.{ltb, eqb}
use borrow.Author.Tests.{eq-eqb, ne_eqb, ltb-false}
use Rattle.logic.specs.Search.{◌and◌, ◌or◌}
use Rattle.rows.specs.Bits.{bit}
use Rattle.rows.specs.Square.{row_of, square, Turned}
use Rattle.rows.proofs.Bits.{bit-none}
use Rattle.rows.proofs.Fill.{Filled, filled_old, filled_more, filled_all}
use Rattle.rows.proofs.Square.{square_in, square_above, square_beside, set_same, set_other}

-- bit t is told next
pub filled_bit : (new : ℕ → Bool) (t cur next : ℕ) (wanted : Bool) → wanted ≡ new t → ((i : ℕ) → bit next i ≡ bit cur i or (eqb i t and wanted)) →
    Filled new (bit 0) t (bit cur) → Filled new (bit 0) (t + 1) (bit next)
unfolding ◌and◌ ◌or◌
filled_bit new t cur next wanted w e m =
    filled_more _ _ t (bit cur) (bit next)
    (e t ∙ rw (eq-eqb t t refl, filled_old _ _ t (bit cur) m, bit-none t) w)
    (λ x p. e x ∙ rw (ne_eqb x t p) (none (bit cur x)))
    m
  where
    none : (b : Bool) → b or false ≡ b
    none true = refl
    none false = refl

module _ (rows : List ℕ) where
  -- column y, bit after bit
  pub column_more : (y : ℕ) → y ≤ 16 → (z : ℕ) → z ≤ 16 → (cur next : ℕ) (wanted : Bool) → wanted ≡ bit (get_or rows z 0) y →
      ((i : ℕ) → bit next i ≡ bit cur i or (eqb i z and wanted)) → Filled (λ x. square rows x y) (bit 0) z (bit cur) →
      Filled (λ x. square rows x y) (bit 0) (z + 1) (bit next)
  column_more y h z k cur next wanted w = filled_bit (λ x. square rows x y) z cur next wanted (w ∙ sym (square_in rows z y k h))

  pub column_all : (y cur : ℕ) → Filled (λ x. square rows x y) (bit 0) 17 (bit cur) → (z : ℕ) → bit cur z ≡ square rows z y
  column_all y cur m z = ap (λ (f : ℕ → Bool). f z) (filled_all _ _ 17 (bit cur) m (λ x h. bit-none x ∙ sym (square_above rows x y h)))

  -- one column after the other
  module _ (first : List ℕ) where
    pub turned_more : (y : ℕ) → y ≤ 16 → (cur : List ℕ) → length cur ≡ 17 → (w : ℕ) → ((z : ℕ) → bit w z ≡ square rows z y) →
        Filled (λ a b. square rows b a) (square first) y (square cur) → Filled (λ a b. square rows b a) (square first) (y + 1) (square (set cur y w))
    unfolding row_of ◌and◌
    turned_more y h cur full w e m = filled_more _ _ y (square cur) _
        (set_same cur y w full h ∙ fun_ext (λ z. ap (λ (t : Bool). ltb z 17 and t) (e z) ∙ within z (ltb z 17) refl)) (set_other cur y w) m
      where
        within : (z : ℕ) (t : Bool) → ltb z 17 ≡ t → t and square rows z y ≡ square rows z y
        within z true f = refl
        within z false f = sym (square_above rows z y (ltb-false z 17 f))

    pub turned_all : (cur : List ℕ) → Filled (λ a b. square rows b a) (square first) 17 (square cur) → Turned cur rows
    turned_all cur m a b = ap (λ (f : ℕ → ℕ → Bool). f a b) (filled_all _ _ 17 (square cur) m (λ x h. fun_ext (λ y. square_above first x y h ∙ sym (square_beside rows y x h))))
