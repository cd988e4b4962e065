-- Laws of the definitions that the readers are held to, at the places where a loop or a branch meets them.
use Prim.Native.Nat.{ℕ, ◌+◌, ◌-◌, ◌*◌, ◌≤◌, ◌<◌}
use native.Mathlib.Omega.{arith}
use native.Mathlib.Numerals.{add-one}
use mathlib.Core.Path.{◌≡◌, refl, sym, ap, ◌∙◌}
use mathlib.Core.Logic.{⊎_elim}
use mathlib.Core.Bool.{Bool, true, false, cond, ◌&&◌}
use mathlib.Core.List.{List, [], ◌∷◌}
use lib.ListN.{length, get_or, drop, drop_of_length-le}
use lib.Seq.{drop-cons}
use lib.Dec.{eqb, ltb, leb}
use borrow.Author.Tests.{eq-eqb, ne_eqb, lt-ltb, le-ltb, le-leb, lt-leb, ltb-true, ltb-false, leb-true, leb-false}
use Rattle.logic.specs.Search.{◌and◌}
use Rattle.theory.proofs.Basics.Search.{bool_cases, true-false}
use Rattle.text.specs.Text.{is_digit}
use Rattle.formula.specs.Grammar.{Letter, E, R, D, B, is_place, shown}
use Rattle.formula.specs.Places.{digits_at, past_digits}
use Rattle.formula.specs.Reader.{mark, blank, letter, closing, ampersand, bar, other, digit, past_blanks}
use Rattle.formula.proofs.Reading.{all_digits}
use Rattle.formula_reader.specs.Tree.{letter_code, capped}
use Rattle.formula_reader.specs.Answers.{stands, begins_none, saturated}

pub stands_in : (text : List ℕ) (at b : ℕ) → at < length text → eqb (get_or text at 0) b ≡ stands text at b
unfolding stands ◌and◌
stands_in text at b h = rw (lt-ltb at (length text) h)

pub stands_out : (text : List ℕ) (at b : ℕ) → length text ≤ at → false ≡ stands text at b
unfolding stands ◌and◌
stands_out text at b h = rw (le-ltb at (length text) h)

-- Digits

pub digit_low : (b : ℕ) → b < 48 → is_digit b ≡ false
unfolding is_digit ◌and◌
digit_low b h = rw (lt-leb 48 b h)

pub digit_high : (b : ℕ) → 57 < b → is_digit b ≡ false
unfolding is_digit ◌and◌
digit_high b h = rw (le-leb 48 b (omega arith), lt-leb b 57 h)

pub digit_in : (b : ℕ) → 48 ≤ b → b ≤ 57 → is_digit b ≡ true
unfolding is_digit ◌and◌
digit_in b h k = rw (le-leb 48 b h, le-leb b 57 k)

module _ (text : List ℕ) (i : ℕ) (h : i < length text) where
  pub next_byte : drop i text ≡ get_or text i 0 ∷ drop (i + 1) text
  next_byte = rw add-one (drop-cons text i 0 h)

  -- Blanks

  pub blank_here : get_or text i 0 ≡ 32 → past_blanks (drop i text) ≡ past_blanks (drop (i + 1) text)
  unfolding past_blanks
  blank_here e = ap past_blanks next_byte ∙ rw (eq-eqb _ _ e)

  pub blank-not : (get_or text i 0 ≡ 32 → ⊥) → past_blanks (drop i text) ≡ drop i text
  unfolding past_blanks
  blank-not n = ap past_blanks next_byte ∙ (rw (ne_eqb _ _ n)) ∙ sym next_byte

  -- Digits

  pub digit_here : is_digit (get_or text i 0) ≡ true → past_digits (drop i text) ≡ past_digits (drop (i + 1) text)
  unfolding past_digits
  digit_here e = ap past_digits next_byte ∙ rw e

  pub digit_not : is_digit (get_or text i 0) ≡ false → past_digits (drop i text) ≡ drop i text
  unfolding past_digits
  digit_not e = ap past_digits next_byte ∙ (rw e) ∙ sym next_byte

  pub digits_here : is_digit (get_or text i 0) ≡ true → digits_at (drop i text) ≡ get_or text i 0 ∷ digits_at (drop (i + 1) text)
  unfolding digits_at
  digits_here e = ap digits_at next_byte ∙ rw e

  pub digits_not : is_digit (get_or text i 0) ≡ false → digits_at (drop i text) ≡ []
  unfolding digits_at
  digits_not e = ap digits_at next_byte ∙ rw e

  pub place_low : get_or text i 0 < 49 → is_place (digits_at (drop i text)) ≡ false
  unfolding is_place ◌and◌
  place_low l =
      ⊎_elim
      (λ (e : is_digit (get_or text i 0) ≡ true). ap is_place (digits_here e) ∙ rw (e, eq-eqb (get_or text i 0) 48 (zero_digit e)))
      (λ e. ap is_place (digits_not e))
      (bool_cases (is_digit (get_or text i 0)))
    where
      zero_digit : is_digit (get_or text i 0) ≡ true → get_or text i 0 ≡ 48
      zero_digit e = ⊎_elim (λ (k : ltb (get_or text i 0) 48 ≡ true). absurd (true-false e (digit_low _ (ltb-true _ _ k))))
          (λ k. omega (arith, ltb-false (get_or text i 0) 48 k)) (bool_cases (ltb (get_or text i 0) 48))

  pub place_high : 57 < get_or text i 0 → is_place (digits_at (drop i text)) ≡ false
  unfolding is_place
  place_high l = ap is_place (digits_not (digit_high _ l))

  pub place_in : 49 ≤ get_or text i 0 → get_or text i 0 ≤ 57 → is_place (digits_at (drop i text)) ≡ true
  unfolding is_place ◌and◌
  place_in l k =
      ap is_place (digits_here (digit_in _ (omega arith) k))
      ∙ rw (digit_in (get_or text i 0) (omega arith) k, ne_eqb (get_or text i 0) 48 (λ e. omega arith), all_digits (drop (i + 1) text))

  pub is_place_lem : leb 49 (get_or text i 0) && leb (get_or text i 0) 57 ≡ is_place (digits_at (drop i text))
  is_place_lem =
      ⊎_elim
      (λ (a : leb 49 (get_or text i 0) ≡ true). ⊎_elim
      (λ (b : leb (get_or text i 0) 57 ≡ true). (rw (a, b)) ∙ sym (place_in (leb-true _ _ a) (leb-true _ _ b)))
      (λ b. (rw (a, b)) ∙ sym (place_high (leb-false _ _ b)))
      (bool_cases (leb (get_or text i 0) 57)))
      (λ a. (rw a) ∙ sym (place_low (leb-false _ _ a)))
      (bool_cases (leb 49 (get_or text i 0)))

module _ (text : List ℕ) (i : ℕ) (h : length text ≤ i) where
  pub nothing_left : drop i text ≡ []
  nothing_left = drop_of_length-le text h

  pub blank_end : past_blanks (drop i text) ≡ drop i text
  unfolding past_blanks
  blank_end = ap past_blanks nothing_left ∙ sym nothing_left

  pub digit_end : past_digits (drop i text) ≡ drop i text
  unfolding past_digits
  digit_end = ap past_digits nothing_left ∙ sym nothing_left

  pub digits_end : digits_at (drop i text) ≡ []
  unfolding digits_at
  digits_end = ap digits_at nothing_left

  pub place_end : false ≡ is_place (digits_at (drop i text))
  unfolding is_place
  place_end = sym (ap is_place digits_end)

-- Numbers above 99

pub sat_low : (n : ℕ) → n ≤ 99 → saturated n ≡ n
unfolding saturated
sat_low n h = rw (le-ltb 99 n h)

pub sat_high : (n : ℕ) → 99 < n → saturated n ≡ 100
unfolding saturated
sat_high n h = rw (lt-ltb 99 n h)

sat_next : (v d : ℕ) → saturated (10 * saturated v + d) ≡ saturated (10 * v + d)
sat_next v d = ⊎_elim (λ (e : ltb 99 v ≡ true). let h : 99 < v = ltb-true 99 v e in
    (rw (sat_high v h) (sat_high _ (omega arith))) ∙ sym (sat_high (10 * v + d) (omega arith))) (λ e. let h : v ≤ 99 = ltb-false 99 v e in
    rw (sat_low v h)) (bool_cases (ltb 99 v))

pub sat_shown : (v : ℕ) (ds : List ℕ) → saturated (shown (saturated v) ds) ≡ saturated (shown v ds)
unfolding shown
sat_shown v [] = ⊎_elim (λ (e : ltb 99 v ≡ true). let h : 99 < v = ltb-true 99 v e in
    rw (sat_high v h) (sat_high 100 (omega arith))) (λ e. let h : v ≤ 99 = ltb-false 99 v e in
    rw (sat_low v h) (sat_low v h)) (bool_cases (ltb 99 v))
sat_shown v (d ∷ ds) = sym (sat_shown (10 * saturated v + (d - 48)) ds) ∙ ap (λ (n : ℕ). saturated (shown n ds)) (sat_next v (d - 48)) ∙ sat_shown (10 * v + (d - 48)) ds

module _ (text : List ℕ) (i v : ℕ) where
  pub shown_next : i < length text → is_digit (get_or text i 0) ≡ true →
      saturated (shown v (digits_at (drop i text))) ≡ saturated (shown (saturated (10 * v + (get_or text i 0 - 48))) (digits_at (drop (i + 1) text)))
  unfolding shown
  shown_next h e = ap (λ (ds : List ℕ). saturated (shown v ds)) (digits_here text i h e) ∙ sym (sat_shown (10 * v + (get_or text i 0 - 48)) (digits_at (drop (i + 1) text)))

  pub shown_end : digits_at (drop i text) ≡ [] → v ≤ 100 → saturated (shown v (digits_at (drop i text))) ≡ v
  unfolding shown
  shown_end e h = ap (λ (ds : List ℕ). saturated (shown v ds)) e ∙ ⊎_elim (λ (k : ltb 99 v ≡ true). let l : 99 < v = ltb-true 99 v k in
      sat_high v l ∙ omega arith) (λ k. sat_low v (ltb-false 99 v k)) (bool_cases (ltb 99 v))

-- What begins an item

pub begins-none : (b : ℕ) → (b ≡ 40 → ⊥) → (b ≡ 69 → ⊥) → (b ≡ 82 → ⊥) → (b ≡ 68 → ⊥) → (b ≡ 66 → ⊥) → begins_none (mark b) ≡ true
unfolding mark
begins-none b o e r d n = rw (ne_eqb b 40 o, ne_eqb b 69 e, ne_eqb b 82 r, ne_eqb b 68 d, ne_eqb b 66 n) (go (eqb b 32) (eqb b 41) (eqb b 38) (eqb b 124) (is_digit b))
  where
    go : (a₁ a₂ a₃ a₄ a₅ : Bool) → begins_none (cond a₁ blank (cond a₂ closing (cond a₃ ampersand (cond a₄ bar (cond a₅ digit other))))) ≡ true
    go true a₂ a₃ a₄ a₅ = unfold begins_none in refl
    go false true a₃ a₄ a₅ = unfold begins_none in refl
    go false false true a₄ a₅ = unfold begins_none in refl
    go false false false true a₅ = unfold begins_none in refl
    go false false false false true = unfold begins_none in refl
    go false false false false false = unfold begins_none in refl

module _ {b : ℕ} where
  pub mark-E : b ≡ 69 → (l : Letter) × (mark b ≡ letter l) × (0 ≡ letter_code l)
  unfolding mark letter_code
  mark-E e = (E, rw e refl, refl)

  pub mark-R : b ≡ 82 → (l : Letter) × (mark b ≡ letter l) × (1 ≡ letter_code l)
  unfolding mark letter_code
  mark-R e = (R, rw e refl, refl)

  pub mark-D : b ≡ 68 → (l : Letter) × (mark b ≡ letter l) × (2 ≡ letter_code l)
  unfolding mark letter_code
  mark-D e = (D, rw e refl, refl)

  pub mark-B : b ≡ 66 → (l : Letter) × (mark b ≡ letter l) × (3 ≡ letter_code l)
  unfolding mark letter_code
  mark-B e = (B, rw e refl, refl)

-- "more than 64 conjunctions"

pub cap_low : (n : ℕ) → n ≤ 64 → capped n ≡ n
unfolding capped
cap_low n h = rw (le-ltb 64 n h)

pub cap_high : (n : ℕ) → 64 < n → capped n ≡ 65
unfolding capped
cap_high n h = rw (lt-ltb 64 n h)

pub saturated_bound : {r : ℕ} (n : ℕ) → r ≡ saturated n → r ≤ 100
saturated_bound {r} n e =
    ⊎_elim (λ (k : ltb 99 n ≡ true). omega (arith, e, sat_high n (ltb-true 99 n k))) (λ k. omega (arith, e, sat_low n (ltb-false 99 n k), ltb-false 99 n k)) (bool_cases (ltb 99 n))
