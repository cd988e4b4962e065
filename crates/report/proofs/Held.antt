-- What the plain literals set, marked one after the other; and the byte of a row of marks.
use Prim.Native.Nat.{ℕ, zero, suc, ◌+◌, ◌*◌, ◌/◌, ◌%◌, ◌^◌, ◌≤◌, ◌<◌}
use native.Mathlib.Nat.{pow-suc, div-div-eq-div-mul, mod-one, mod-lt, zero-lt-suc, mul_comm, add_comm}
use native.Mathlib.Omega.{arith}
use mathlib.Core.Path.{◌≡◌, refl, sym, ap, ap₂, ◌∙◌}
use mathlib.Core.Bool.{Bool, true, false, cond}
use mathlib.Core.List.{List, ◌∷◌}
use lib.ListN.{length, get_or, set, replicate, get_or-replicate}
use lib.Arith.{mod-mul}
use lib.Pow.{pow_pos}
use lib.Bits.{bit_and, bit_or, and_mask, mask_lt}
use lib.Dec.{eqb}
use Rattle.logic.specs.Search.{◌and◌, ◌or◌, any}
use Rattle.logic.specs.Query.{Literal}
use Rattle.logic.specs.Shown.{byte_of}
use Rattle.theory.proofs.Basics.Compare.{eqb_turned}
use Rattle.rows.specs.Bits.{bit}
use Rattle.rows.specs.Square.{square}
use Rattle.rows.proofs.Bits.{bit_is, bit-none}
use Rattle.rows.proofs.Square.{square_in, square-add}
use Rattle.query.proofs.Literals.{listed, listed_end, listed_next}
use Rattle.report.specs.Bytes.{field_held}

-- a mark that is set at a turn
or_turn : (s a b r : Bool) → s or (b and a or r) ≡ s or (a and b) or r
unfolding ◌or◌ ◌and◌
or_turn true a b r = refl
or_turn false true true r = refl
or_turn false true false r = refl
or_turn false false true r = refl
or_turn false false false r = refl

or-false : (s : Bool) → s or false ≡ s
unfolding ◌or◌
or-false true = refl
or-false false = refl

true-and : (a b : Bool) → true and a and b ≡ a and b
unfolding ◌and◌
true-and a b = refl

held_cons : (rep : ℕ → ℕ) (l : Literal) (ls : List Literal) (v j : ℕ) → field_held rep (l ∷ ls) v j ≡ (l.plain and eqb l.left j and eqb (rep l.right) v) or field_held rep ls v j
unfolding field_held any
held_cons rep l ls v j = refl

no_marks : (v j : ℕ) → v ≤ 16 → j ≤ 16 → square (replicate 17 0) v j ≡ false
no_marks v j h k = square_in (replicate 17 0) v j h k ∙ ap (λ (w : ℕ). bit w j) (get_or-replicate 17 v 0 0 (omega arith)) ∙ bit-none j

-- row a with one more number, whose own row is o
abbrev pub marked_at : List ℕ → ℕ → ℕ → List ℕ
marked_at marks a o = set marks a (bit_or (get_or marks a 0) o)

mark_set : (marks : List ℕ) → length marks ≡ 17 → (a b o : ℕ) → a ≤ 16 → b ≤ 16 → ((i : ℕ) → bit o i ≡ eqb i b) → (v j : ℕ) →
    square (marked_at marks a o) v j ≡ square marks v j or (eqb v a and eqb j b)
mark_set marks full a b o h k e v j = ap (λ (f : ℕ → ℕ → Bool). f v j) (square-add marks full a b o h k e)

module _ (rep : ℕ → ℕ) (g : ℕ → Literal) (count : ℕ) where
  -- the marks so far and the literals left make the whole
  abbrev pub FieldMarks : ℕ → List ℕ → Type 0
  FieldMarks i marks = (v j : ℕ) → v ≤ 16 → j ≤ 16 → field_held rep (listed g count 0) v j ≡ square marks v j or field_held rep (listed g count i) v j

  pub fields_none : FieldMarks 0 (replicate 17 0)
  unfolding ◌or◌
  fields_none v j h k = rw (no_marks v j h k)

  pub fields_skip : (i : ℕ) (marks : List ℕ) → i < count → (g i).plain ≡ false → FieldMarks i marks → FieldMarks (i + 1) marks
  unfolding field_held any ◌or◌ ◌and◌
  fields_skip i marks h e m v j l r = m v j l r ∙ ap (λ (ls : List Literal). square marks v j or field_held rep ls v j) (listed_next g count i h) ∙ rw e

  pub fields_here : (i : ℕ) (marks : List ℕ) → length marks ≡ 17 → i < count → (g i).plain ≡ true → (a b o : ℕ) → a ≤ 16 → b ≤ 16 →
      ((i : ℕ) → bit o i ≡ eqb i b) → a ≡ rep (g i).right → b ≡ (g i).left → FieldMarks i marks → FieldMarks (i + 1) (marked_at marks a o)
  fields_here i marks full h e a b o x y c p q m v j l r =
      m v j l r
      ∙ ap (λ (ls : List Literal). square marks v j or field_held rep ls v j) (listed_next g count i h)
      ∙ turn
      ∙ ap (λ (s : Bool). s or field_held rep (listed g count (i + 1)) v j) (sym (mark_set marks full a b o x y c v j))
    where
      test : (g i).plain and eqb (g i).left j and eqb (rep (g i).right) v ≡ eqb j b and eqb v a
      test = rw (e, ← p, ← q, eqb_turned b j, eqb_turned a v) (true-and (eqb j b) (eqb v a))

      turn : square marks v j or field_held rep (g i ∷ listed g count (i + 1)) v j ≡ square marks v j or (eqb v a and eqb j b) or field_held rep (listed g count (i + 1)) v j
      turn = ap (λ (t : Bool). square marks v j or t)
          (held_cons rep (g i) (listed g count (i + 1)) v j ∙ ap (λ (t : Bool). t or field_held rep (listed g count (i + 1)) v j) test)
          ∙ or_turn (square marks v j) (eqb v a) (eqb j b) _

  pub fields_all : (i : ℕ) (marks : List ℕ) → count ≤ i → FieldMarks i marks → (v j : ℕ) → v ≤ 16 → j ≤ 16 → square marks v j ≡ field_held rep (listed g count 0) v j
  unfolding field_held any
  fields_all i marks h m v j l r = sym (m v j l r ∙ ap (λ (ls : List Literal). square marks v j or field_held rep ls v j) (listed_end g count i h) ∙ or-false (square marks v j))

-- Bytes

-- the byte of m bits of a word from k on
byte_bits : (w k m : ℕ) → byte_of (bit w) k m ≡ w / 2 ^ k % 2 ^ m
unfolding byte_of
byte_bits w k zero = sym (mod-one (w / 2 ^ k))
byte_bits w k (suc m) =
    ap₂ (λ (b x : ℕ). b + 2 * x) (ap (λ (b : Bool). cond b 1 0) (bit_is w k) ∙ digit (w / 2 ^ k % 2) (mod-lt (w / 2 ^ k) (zero-lt-suc 1))) (byte_bits w (suc k) m ∙ ap (λ (x : ℕ). x % 2 ^ m) half)
    ∙ total (w / 2 ^ k)
  where
    digit : (d : ℕ) → d < 2 → cond (eqb d 1) 1 0 ≡ d
    digit zero h = refl
    digit (suc zero) h = refl
    digit (suc (suc d)) h = absurd (omega arith)

    half : w / 2 ^ suc k ≡ w / 2 ^ k / 2
    half = ap (λ (x : ℕ). w / x) (pow-suc 2 k) ∙ sym (div-div-eq-div-mul w (2 ^ k) 2)

    total : (x : ℕ) → x % 2 + 2 * (x / 2 % 2 ^ m) ≡ x % 2 ^ suc m
    total x = let e = mod-mul x (pow_pos m) (zero-lt-suc 1) in
        let p = pow-suc 2 m in
        ap₂ ◌+◌ refl (mul_comm 2 (x / 2 % 2 ^ m)) ∙ add_comm (x % 2) (x / 2 % 2 ^ m * 2) ∙ sym e ∙ ap (λ (y : ℕ). x % y) (sym p)

-- a byte is that of its eight bits
pub byte_alike : (f g : ℕ → Bool) (i k : ℕ) → ((j : ℕ) → i ≤ j → j < i + k → f j ≡ g j) → byte_of f i k ≡ byte_of g i k
unfolding byte_of
byte_alike f g i zero h = refl
byte_alike f g i (suc k) h = ap₂ (λ (b : Bool) (x : ℕ). cond b 1 0 + 2 * x) (h i (omega arith) (omega arith)) (byte_alike f g (suc i) k (λ j l r. h j (omega arith) (omega arith)))

-- eight bits of a row, from bit 1 on
pub row_byte_is : (marks : List ℕ) (v : ℕ) → v ≤ 16 → bit_and (get_or marks v 0 / 2 ^ 1) 255 ≡ byte_of (square marks v) 1 8
row_byte_is marks v h = and_mask (get_or marks v 0 / 2 ^ 1) 8 ∙ sym (byte_bits (get_or marks v 0) 1 8)
    ∙ byte_alike (bit (get_or marks v 0)) (square marks v) 1 8 (λ j l r. sym (square_in marks v j h (omega arith)))

pub row_byte_small : (w : ℕ) → bit_and w 255 < 2 ^ 8
row_byte_small w = mask_lt w 8
