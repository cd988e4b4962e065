-- Rows of a table, byte by byte and row by row, and the tokens that are made of them.
use Prim.Native.Nat.{ℕ, zero, suc, ◌+◌, ◌*◌, ◌-◌, ◌≤◌, ◌<◌}
use native.Mathlib.Omega.{arith}
use native.Mathlib.Numerals.{add-one}
use mathlib.Core.Path.{◌≡◌, refl, sym, ap, ◌∙◌, subst}
use mathlib.Core.Logic.{⊎_elim}
use mathlib.Core.Bool.{Bool, true, false, not}
use mathlib.Core.List.{List, [], ◌∷◌}
use lib.ListN.{length, get_or, take, drop, length-drop, drop_of_length-le}
use lib.Seq.{drop-drop, take_all, length-take-le}
use lib.Dec.{eqb}
use borrow.Author.Tests.{eq-eqb, ne_eqb, lt-ltb, le-ltb}
use Rattle.logic.specs.Search.{◌and◌}
use Rattle.theory.proofs.Basics.Search.{bool_cases, true-false, and_right}
use Rattle.text.specs.Text.{is_digit}
use Rattle.text.proofs.Writing.{left_first}
use Rattle.routine_tokens.specs.declared.Token.{Token}
use Rattle.routine_tokens.specs.Tokens.{is_word_byte, word_length, fits, row_of, row_length, reserved_kind, digit_kind, word_kind, word_table, sign_table}
use Rattle.routine_tokens.specs.Tokens.{token_of, word_of, sign_of, token_at, token_behind, token_in, token_from, separators}

-- A row against bytes

module _ (whole : Bool) (bytes row : List ℕ) (i : ℕ) where
  pub fits-end : length row ≤ i → false ≡ fits whole (drop i bytes) (drop i row)
  unfolding fits
  fits-end h = sym (ap (fits whole (drop i bytes)) (drop_of_length-le row {i = i} h))

  module _ (h : i < length row) where
    pub fits_short : length bytes ≤ i → eqb (get_or row i 0) 32 ≡ fits whole (drop i bytes) (drop i row)
    unfolding fits
    fits_short l = sym (ap (λ (bs : List ℕ). fits whole bs (drop i row)) (drop_of_length-le bytes {i = i} l) ∙ ap (fits whole []) (left_first row i h))

    module _ (l : i < length bytes) where
      both : fits whole (drop i bytes) (drop i row) ≡ fits whole (get_or bytes i 0 ∷ drop (i + 1) bytes) (get_or row i 0 ∷ drop (i + 1) row)
      both = ap (λ (bs : List ℕ). fits whole bs (drop i row)) (left_first bytes i l) ∙ ap (fits whole (get_or bytes i 0 ∷ drop (i + 1) bytes)) (left_first row i h)

      pub fits_blank : get_or row i 0 ≡ 32 → not whole ≡ fits whole (drop i bytes) (drop i row)
      unfolding fits
      fits_blank e = sym (both ∙ rw (eq-eqb _ _ e) refl)

      module _ (n : get_or row i 0 ≡ 32 → ⊥) where
        pub fits_other : (get_or bytes i 0 ≡ get_or row i 0 → ⊥) → false ≡ fits whole (drop i bytes) (drop i row)
        unfolding fits ◌and◌
        fits_other e = sym (both ∙ rw (ne_eqb _ _ n, ne_eqb _ _ e) refl)

        pub fits_next : get_or bytes i 0 ≡ get_or row i 0 → fits whole (drop (i + 1) bytes) (drop (i + 1) row) ≡ fits whole (drop i bytes) (drop i row)
        unfolding fits ◌and◌
        fits_next e = sym (both ∙ rw (ne_eqb _ _ n, eq-eqb _ _ e) refl)

-- the length of a row

module _ (row : List ℕ) (i : ℕ) where
  pub length-end : length row ≤ i → row_length (drop i row) ≡ 0
  unfolding row_length
  length-end h = ap row_length (drop_of_length-le row {i = i} h)

  module _ (h : i < length row) where
    pub length_blank : get_or row i 0 ≡ 32 → row_length (drop i row) ≡ 0
    unfolding row_length
    length_blank e = ap row_length (left_first row i h) ∙ rw (eq-eqb _ _ e) refl

    pub length-next : (get_or row i 0 ≡ 32 → ⊥) → row_length (drop i row) ≡ row_length (drop (i + 1) row) + 1
    unfolding row_length
    length-next n = ap row_length (left_first row i h) ∙ (rw (ne_eqb _ _ n) refl) ∙ sym (add-one _)

-- a row that fits is no longer than the bytes
pub fits-length : (whole : Bool) (bytes row : List ℕ) → fits whole bytes row ≡ true → row_length row ≤ length bytes
unfolding fits row_length
fits-length whole bytes [] e = absurd (true-false e refl)
fits-length whole [] (r ∷ row) e = rw e (omega arith)
fits-length whole (b ∷ bytes) (r ∷ row) e =
    ⊎_elim
    (λ (k : eqb r 32 ≡ true). rw k (omega arith))
    (λ k. rw k (let l : row_length row ≤ length bytes = fits-length whole bytes row (and_right (eqb b r) _ (rw k at e)) in omega arith))
    (bool_cases (eqb r 32))

-- Rows of a table

module _ (whole : Bool) (bytes table : List ℕ) where
  row_first : (m k : ℕ) → fits whole bytes (drop (10 * k) table) ≡ true → row_of (suc m) whole bytes (drop (10 * k) table) ≡ 0
  unfolding row_of
  row_first m k e = rw e refl

  row_later : (m k : ℕ) → fits whole bytes (drop (10 * k) table) ≡ false →
      row_of (suc m) whole bytes (drop (10 * k) table) ≡ suc (row_of m whole bytes (drop (10 * (k + 1)) table))
  unfolding row_of
  row_later m k e = (rw e refl) ∙ ap (λ (t : List ℕ). suc (row_of m whole bytes t)) (drop-drop 10 (10 * k) table ∙ ap (λ (n : ℕ). drop n table) next)
    where
      next : 10 * k + 10 ≡ 10 * (k + 1)
      next = omega arith

  module _ (count k : ℕ) where
    left : k < count → count - k ≡ suc (count - (k + 1))
    left h = omega arith

    pub row_here : k < count → fits whole bytes (drop (10 * k) table) ≡ true → row_of (count - k) whole bytes (drop (10 * k) table) ≡ 0
    row_here h e = ap (λ (m : ℕ). row_of m whole bytes (drop (10 * k) table)) (left h) ∙ row_first (count - (k + 1)) k e

    pub row_next : k < count → fits whole bytes (drop (10 * k) table) ≡ false →
        row_of (count - k) whole bytes (drop (10 * k) table) ≡ row_of (count - (k + 1)) whole bytes (drop (10 * (k + 1)) table) + 1
    row_next h e = ap (λ (m : ℕ). row_of m whole bytes (drop (10 * k) table)) (left h) ∙ row_later (count - (k + 1)) k e ∙ sym (add-one _)

    pub row-end : count ≤ k → row_of (count - k) whole bytes (drop (10 * k) table) ≡ 0
    unfolding row_of
    row-end h = ap (λ (m : ℕ). row_of m whole bytes (drop (10 * k) table)) none
      where
        none : count - k ≡ 0
        none = omega arith

-- the row that is found fits
pub row_fits : (whole : Bool) (bytes : List ℕ) (m : ℕ) (table : List ℕ) →
    row_of m whole bytes table < m → fits whole bytes (drop (10 * row_of m whole bytes table) table) ≡ true
unfolding row_of
row_fits whole bytes zero table h = absurd (omega arith)
row_fits whole bytes (suc m) table h =
    ⊎_elim
    (λ (k : fits whole bytes table ≡ true). rw k k)
    (λ k. rw k (
    let r : ℕ = row_of m whole bytes (drop 10 table) in
    let l : r < m = omega (arith, rw k at h) in
    ap (fits whole bytes) (ap (λ (n : ℕ). drop n table) (more r) ∙ sym (drop-drop (10 * r) 10 table)) ∙ row_fits whole bytes m (drop 10 table) l))
    (bool_cases (fits whole bytes table))
  where
    more : (r : ℕ) → 10 * suc r ≡ 10 + 10 * r
    more r = omega arith

-- Kinds of words

pub digits_long : (w : List ℕ) → 1 < length w → 5 ≡ digit_kind w
unfolding digit_kind
digits_long [] h = refl
digits_long (b ∷ []) h = absurd (omega arith)
digits_long (b ∷ c ∷ w) h = refl

module _ where
  pub digit_zero : (w : List ℕ) → 0 < length w → length w ≤ 1 → get_or w 0 0 ≡ 48 → 3 ≡ digit_kind w
  unfolding digit_kind
  digit_zero [] h k e = absurd (omega arith)
  digit_zero (b ∷ []) h k e = rw (eq-eqb _ _ e) refl
  digit_zero (b ∷ c ∷ w) h k e = absurd (omega arith)

  pub digit_one : (w : List ℕ) → 0 < length w → length w ≤ 1 → (get_or w 0 0 ≡ 48 → ⊥) → get_or w 0 0 ≡ 49 → 4 ≡ digit_kind w
  unfolding digit_kind
  digit_one [] h k n e = absurd (omega arith)
  digit_one (b ∷ []) h k n e = rw (ne_eqb _ _ n, eq-eqb _ _ e) refl
  digit_one (b ∷ c ∷ w) h k n e = absurd (omega arith)

  pub digit_other : (w : List ℕ) → 0 < length w → length w ≤ 1 → (get_or w 0 0 ≡ 48 → ⊥) → (get_or w 0 0 ≡ 49 → ⊥) → 5 ≡ digit_kind w
  unfolding digit_kind
  digit_other [] h k n e = absurd (omega arith)
  digit_other (b ∷ []) h k n e = rw (ne_eqb _ _ n, ne_eqb _ _ e) refl
  digit_other (b ∷ c ∷ w) h k n e = absurd (omega arith)

pub kind_digit : (w : List ℕ) → 0 < length w → is_digit (get_or w 0 0) ≡ true → digit_kind w ≡ word_kind w
unfolding word_kind
kind_digit [] h e = absurd (omega arith)
kind_digit (b ∷ w) h e = rw e refl

pub kind_row : (w : List ℕ) → 0 < length w → is_digit (get_or w 0 0) ≡ false → reserved_kind (row_of 23 true w word_table) ≡ word_kind w
unfolding word_kind
kind_row [] h e = absurd (omega arith)
kind_row (b ∷ w) h e = rw e refl

module _ {row : ℕ} where
  pub kind_reserved : row < 23 → 6 + row ≡ reserved_kind row
  unfolding reserved_kind
  kind_reserved h = rw (lt-ltb row 23 h) refl

  pub kind_name : 23 ≤ row → 2 ≡ reserved_kind row
  unfolding reserved_kind
  kind_name h = rw (le-ltb row 23 h) refl

-- Tokens

pub token_of' : (kind start end size : ℕ) → end ≡ start + size → ◌≡◌ {A = Token} (record { kind = kind; start = start; end = end }) (token_of start size kind)
unfolding token_of
token_of' kind start end size e = rw e refl

pub token_word : (kind at end size : ℕ) (bytes : List ℕ) → end ≡ at + size → kind ≡ word_kind (take (end - at) bytes) →
    ◌≡◌ {A = Token} (record { kind = kind; start = at; end = end }) (word_of at size bytes)
unfolding word_of
token_word kind at end size bytes e k =
    token_of' kind at end size e ∙ ap (token_of at size) (k ∙ ap (λ (n : ℕ). word_kind (take n bytes)) same)
  where
    same : end - at ≡ size
    same = omega arith

module _ (at row : ℕ) (table : List ℕ) where
  pub token_sign : (size : ℕ) → row < 16 → size ≡ row_length (drop (10 * row) table) →
      ◌≡◌ {A = Token} (record { kind = 29 + row; start = at; end = at + size }) (sign_of at row table)
  unfolding sign_of
  token_sign size h e = rw (lt-ltb row 16 h) (token_of' (29 + row) at (at + size) _ (ap (λ (n : ℕ). at + n) e))

  pub token_none : 16 ≤ row → ◌≡◌ {A = Token} (record { kind = 1; start = at; end = at + 1 }) (sign_of at row table)
  unfolding sign_of
  token_none h = rw (le-ltb row 16 h) (token_of' 1 at (at + 1) 1 refl)

module _ (text : List ℕ) (at : ℕ) where
  pub token_end : length text ≤ at → ◌≡◌ {A = Token} (record { kind = 0; start = at; end = at }) (token_at at (drop at text))
  unfolding token_at
  token_end h = token_of' 0 at at 0 (omega arith) ∙ sym (ap (token_at at) (drop_of_length-le text {i = at} h))

  module _ (h : at < length text) where
    pub token_is_word : is_word_byte (get_or text at 0) ≡ true → word_of at (word_length (drop at text)) (drop at text) ≡ token_at at (drop at text)
    unfolding token_at
    token_is_word e = ap (λ (bs : List ℕ). word_of at (word_length bs) bs) (left_first text at h) ∙ (rw e refl) ∙ sym (ap (token_at at) (left_first text at h))

    pub token_is_sign : is_word_byte (get_or text at 0) ≡ false → sign_of at (row_of 16 false (drop at text) sign_table) sign_table ≡ token_at at (drop at text)
    unfolding token_at
    token_is_sign e = ap (λ (bs : List ℕ). sign_of at (row_of 16 false bs sign_table) sign_table) (left_first text at h) ∙ (rw e refl) ∙ sym (ap (token_at at) (left_first text at h))

  pub token_from_lem : token_at (at + separators false (drop at text)) (drop (at + separators false (drop at text)) text) ≡ token_from text at
  unfolding token_from token_in token_behind
  token_from_lem = ap (token_at (at + separators false (drop at text))) (sym (drop-drop (separators false (drop at text)) at text))

-- Parts of a text

pub suffix : (bytes : List ℕ) (n : ℕ) → take (length bytes - n) (drop n bytes) ≡ drop n bytes
suffix bytes n = take_all (length bytes - n) (drop n bytes) (omega (arith, length-drop n bytes))

pub part_holds : (text : List ℕ) (at end : ℕ) → at < end → end ≤ length text → 0 < length (take (end - at) (drop at text))
part_holds text at end h l = omega (arith, length-take-le (end - at) (drop at text) (omega (arith, length-drop at text)))

-- a sign ends within the text
pub sign_inside : (text table : List ℕ) (at row size : ℕ) → at < length text → row < 16 → row ≡ row_of 16 false (take (length text - at) (drop at text)) table →
    size ≡ row_length (take (length table - 10 * row) (drop (10 * row) table)) → at + size ≤ length text
sign_inside text table at row size h l e f =
    let bytes : List ℕ = take (length text - at) (drop at text) in
    let same : drop (10 * row) table ≡ drop (10 * row_of 16 false bytes table) table = ap (λ (r : ℕ). drop (10 * r) table) e in
    let below : row_of 16 false bytes table < 16 = subst (λ (r : ℕ). r < 16) e l in
    let fit : fits false bytes (drop (10 * row) table) ≡ true = ap (fits false bytes) same ∙ row_fits false bytes 16 table below in
    let most : row_length (drop (10 * row) table) ≤ length bytes = fits-length false bytes (drop (10 * row) table) fit in
    omega (arith, most, f, ap row_length (suffix table (10 * row)), ap length (suffix text at), length-drop at text)
