-- Greatest common divisors, lowest terms, and the sum of shares. Assumes nothing.
use Prim.Native.Nat.{ℕ, zero, suc, ◌+◌, ◌*◌, ◌/◌, ◌%◌, ◌≤◌, ◌<◌, ◌∣◌}
use native.Mathlib.Omega.{arith}
use native.Mathlib.Nat.{dvd_refl, dvd-zero, dvd-mod_iff, dvd-mul_left, mul-dvd-mul_left, dvd_of_mul-dvd-mul_left}
use native.Mathlib.Nat.{pos_of_dvd_of_pos, eq-one_of_dvd-one, mul-div_cancel', eq_of_mul-eq-mul_right, add-mul}
use native.Mathlib.Nat.{mul_assoc, mul_comm, mul_left_comm, mul-one, mul-suc, zero-mul, mod-lt}
use mathlib.Core.Path.{◌≡◌, refl, sym, ap, subst, ◌∙◌}
use mathlib.Core.Logic.{⊎_elim}
use mathlib.Core.List.{List, [], ◌∷◌, ◌++◌, map}
use native.Mathlib.Numerals.{add-one}
use lib.ListN.{length, get_or, drop, drop_of_length-le}
use lib.Seq.{drop-cons}
use Rattle.logic.specs.Search.{flat_map}
use Rattle.text.specs.Text.{ascii, decimal, decimal_within}
use borrow.Author.Tests.{eq-eqb, ne_eqb}
use Rattle.theory.proofs.Basics.Compare.{le_cases}
use Rattle.fractions.specs.Fractions.{Fraction, gcd_within, gcd, share, total_of, shares_of, sum_of, fraction_text, shares_text}
use Rattle.fractions.specs.Claims.{GreatestCommonDivisor, LowestTerms, ExactlyOne, Claims}

-- A remainder is a step; none is left where the second number is 0.
within_zero : (steps a b : ℕ) → b ≡ 0 → gcd_within (suc steps) a b ≡ a
unfolding gcd_within
within_zero steps a b e = rw (eq-eqb b 0 e)

within_more : (steps a b : ℕ) → 0 < b → gcd_within (suc steps) a b ≡ gcd_within steps b (a % b)
unfolding gcd_within
within_more steps a b h = rw (ne_eqb b 0 (λ e. omega arith))

within_enough : (m n a b : ℕ) → b < m → b < n → gcd_within m a b ≡ gcd_within n a b
within_enough zero n a b h l = absurd (omega arith)
within_enough (suc m) zero a b h l = absurd (omega arith)
within_enough (suc m) (suc n) a b h l =
    ⊎_elim
    (λ (some : 1 ≤ b).
    let r : a % b < b = mod-lt a some in
    within_more m a b some ∙ within_enough m n b (a % b) (omega arith) (omega arith) ∙ sym (within_more n a b some))
    (λ (none : b < 1). let z : b ≡ 0 = omega arith in within_zero m a b z ∙ sym (within_zero n a b z))
    (le_cases 1 b)

pub gcd-zero : (a b : ℕ) → b ≡ 0 → gcd a b ≡ a
unfolding gcd
gcd-zero a b e = within_zero b a b e

pub gcd_next : (a b : ℕ) → 0 < b → gcd a b ≡ gcd b (a % b)
unfolding gcd
gcd_next a b h = let r : a % b < b = mod-lt a h in within_more b a b h ∙ within_enough b (suc (a % b)) b (a % b) r (omega arith)

-- it is the greatest common divisor
within_is : (steps a b : ℕ) → b < steps → GreatestCommonDivisor a b (gcd_within steps a b)
within_is zero a b h = absurd (omega arith)
within_is (suc steps) a b h =
    ⊎_elim
    (λ (some : 1 ≤ b).
    let r : a % b < b = mod-lt a some in
    let ih = within_is steps b (a % b) (omega arith) in
    subst (GreatestCommonDivisor a b) (sym (within_more steps a b some)) (record {
      left = (dvd-mod_iff _ ih.left).0 ih.right;
      right = ih.left;
      greatest = λ d p q. ih.greatest d q ((dvd-mod_iff d q).1 p);
    }))
    (λ (none : b < 1).
    let z : b ≡ 0 = omega arith in
    subst (GreatestCommonDivisor a b) (sym (within_zero steps a b z)) (record {
      left = dvd_refl a;
      right = subst (λ (n : ℕ). a ∣ n) (sym z) (dvd-zero a);
      greatest = λ d p q. p;
    }))
    (le_cases 1 b)

pub gcd_is : (a b : ℕ) → GreatestCommonDivisor a b (gcd a b)
unfolding gcd
gcd_is a b = within_is (suc b) a b (omega arith)

-- A share, of no lines and of some
share-none : (count total : ℕ) → count ≡ 0 → share count total ≡ record { top = 0; bottom = 1 }
unfolding share
share-none count total e = rw (eq-eqb count 0 e)

pub share-some : (count total : ℕ) → 0 < count → share count total ≡ record { top = count / gcd count total; bottom = total / gcd count total }
unfolding share
share-some count total h = rw (ne_eqb count 0 (λ e. omega arith))

module _ (count total : ℕ) (some : 0 < count) (most : count ≤ total) where
  abbrev g : ℕ
  g = gcd count total

  abbrev k : ℕ
  k = count / g

  abbrev m : ℕ
  m = total / g

  pub g_positive : 0 < g
  g_positive = pos_of_dvd_of_pos (gcd_is count total).left some

  count_is : g * k ≡ count
  count_is = mul-div_cancel' g (gcd_is count total).left

  total_is : g * m ≡ total
  total_is = mul-div_cancel' g (gcd_is count total).right

  some_lowest : LowestTerms (record { top = k; bottom = m })
  some_lowest =
      record {
        positive = pos_of_dvd_of_pos (subst (λ (n : ℕ). m ∣ n) total_is (dvd-mul_left m g)) (omega arith);
        lowest = λ d p q.
            let both = (gcd_is count total).greatest (g * d) (subst (λ (n : ℕ). g * d ∣ n) count_is (mul-dvd-mul_left d g p)) (subst (λ (n : ℕ). g * d ∣ n) total_is (mul-dvd-mul_left d g q)) in
            eq-one_of_dvd-one (dvd_of_mul-dvd-mul_left d g_positive (subst (λ (n : ℕ). g * d ∣ n) (sym (mul-one g)) both));
      }

  some_part : k * total ≡ count * m
  some_part =
      ap (λ (n : ℕ). k * n) (sym total_is) ∙ mul_left_comm k g m ∙ sym (mul_assoc g k m) ∙ ap (λ (n : ℕ). n * m) count_is

pub lowest_terms : (count total : ℕ) → count ≤ total → LowestTerms (share count total)
lowest_terms count total h =
    ⊎_elim
    (λ (some : 1 ≤ count). subst LowestTerms (sym (share-some count total some)) (some_lowest count total some h))
    (λ (none : count < 1). subst LowestTerms (sym (share-none count total (omega arith))) (record { positive = omega arith; lowest = λ d p q. eq-one_of_dvd-one q }))
    (le_cases 1 count)

pub part_of_total : (count total : ℕ) → count ≤ total → (share count total).top * total ≡ count * (share count total).bottom
part_of_total count total h =
    ⊎_elim
    (λ (some : 1 ≤ count). subst (λ (f : Fraction). f.top * total ≡ count * f.bottom) (sym (share-some count total some)) (some_part count total some h))
    (λ (none : count < 1).
    let z : count ≡ 0 = omega arith in
    subst (λ (f : Fraction). f.top * total ≡ count * f.bottom) (sym (share-none count total z)) (zero-mul total ∙ sym (mul-one count ∙ z)))
    (le_cases 1 count)

-- The sum. Where each fraction is its count's part of the total, so is their sum of the sum of counts.
added_parts : (p q a s b n t : ℕ) → p * t ≡ a * q → s * t ≡ n * b → (p * b + s * q) * t ≡ (a + n) * (q * b)
added_parts p q a s b n t e f =
    add-mul (p * b) (s * q) t
    ∙ ap (λ (x : ℕ). x + s * q * t) (mul_assoc p b t ∙ ap (λ (x : ℕ). p * x) (mul_comm b t) ∙ sym (mul_assoc p t b) ∙ ap (λ (x : ℕ). x * b) e ∙ mul_assoc a q b)
    ∙ ap (λ (x : ℕ). a * (q * b) + x)
    (mul_assoc s q t ∙ ap (λ (x : ℕ). s * x) (mul_comm q t) ∙ sym (mul_assoc s t q) ∙ ap (λ (x : ℕ). x * q) f ∙ mul_assoc n b q
    ∙ ap (λ (x : ℕ). n * x) (mul_comm b q))
    ∙ sym (add-mul a n (q * b))

pos_mul : (a b : ℕ) → 0 < a → 0 < b → 0 < a * b
pos_mul (suc a) (suc b) h l = omega (arith, mul-suc-suc a b)
  where
    mul-suc-suc : (a b : ℕ) → suc a * suc b ≡ suc a * b + suc a
    mul-suc-suc a b = mul-suc (suc a) b
pos_mul zero b h l = absurd (omega arith)
pos_mul (suc a) zero h l = absurd (omega arith)

sum_part : (total : ℕ) (cs : List ℕ) → total_of cs ≤ total →
    ((sum_of (map (λ c. share c total) cs)).top * total ≡ total_of cs * (sum_of (map (λ c. share c total) cs)).bottom) × (0 < (sum_of (map (λ c. share c total) cs)).bottom)
unfolding sum_of total_of
sum_part total [] h = (zero-mul total, omega arith)
sum_part total (c ∷ cs) h =
    let (e, pos) = sum_part total cs (omega arith) in
    let f = share c total in
    let s = sum_of (map (λ c. share c total) cs) in (
      added_parts f.top f.bottom c s.top s.bottom (total_of cs) total (part_of_total c total (omega arith)) e,
      pos_mul f.bottom s.bottom (lowest_terms c total (omega arith)).positive pos,
    )

pub shares_add_up : (counts : List ℕ) → 0 < total_of counts → ExactlyOne (sum_of (shares_of counts))
unfolding shares_of
shares_add_up counts h =
    let (e, pos) = sum_part (total_of counts) counts (omega arith) in
    record { positive = pos; one = eq_of_mul-eq-mul_right (total_of counts) h _ _ (e ∙ mul_comm (total_of counts) _) }

pub claims : Claims
claims = record { gcd_is = gcd_is; lowest_terms = lowest_terms; part_of_total = part_of_total; shares_add_up = shares_add_up }

-- computed: 02's kinds of shares
examples :
    (share 15 23 ≡ record { top = 15; bottom = 23 }) × (share 6 8 ≡ record { top = 3; bottom = 4 }) × (share 7 7 ≡ record { top = 1; bottom = 1 })
    × (share 0 7 ≡ record { top = 0; bottom = 1 }) × (share 0 0 ≡ record { top = 0; bottom = 1 }) × (gcd 4294967295 34359738360 ≡ 4294967295)
unfolding share gcd gcd_within
examples = (refl, refl, refl, refl, refl, refl)

-- The total as it is added up: the counts from k on are left.
module _ (counts : List ℕ) (k : ℕ) where
  pub total_next : k < length counts → total_of (drop k counts) ≡ get_or counts k 0 + total_of (drop (k + 1) counts)
  unfolding total_of
  total_next h = ap total_of (drop-cons counts k 0 h) ∙ ap (λ (j : ℕ). get_or counts k 0 + total_of (drop j counts)) (sym (add-one k))

  pub total_end : length counts ≤ k → total_of (drop k counts) ≡ 0
  unfolding total_of
  total_end h = ap total_of (drop_of_length-le counts {i = k} h)

pub part_at_most : (counts : List ℕ) (k : ℕ) → k < length counts → get_or counts k 0 ≤ total_of counts
unfolding total_of
part_at_most [] k h = absurd (omega arith)
part_at_most (c ∷ cs) zero h = omega arith
part_at_most (c ∷ cs) (suc k) h = let l = part_at_most cs k (omega arith) in omega arith

-- The text as it is written: the shares from k on are left.
pub share_words : (count total g : ℕ) → 0 < count → g ≡ gcd count total → decimal (count / g) ++ (ascii "/" ++ (decimal (total / g) ++ ascii "\n")) ≡ fraction_text (share count total)
unfolding fraction_text
share_words count total g h e =
    ap (λ (n : ℕ). decimal (count / n) ++ (ascii "/" ++ (decimal (total / n) ++ ascii "\n"))) e ∙ sym (ap fraction_text (share-some count total h))

pub none_words : (count total : ℕ) → count ≡ 0 → ascii "0/1\n" ≡ fraction_text (share count total)
unfolding fraction_text decimal decimal_within
none_words count total e = sym (ap fraction_text (share-none count total e))

abbrev pub shares_left : ℕ → List ℕ → ℕ → List ℕ
shares_left total counts k = flat_map fraction_text (map (λ c. share c total) (drop k counts))

module _ (total : ℕ) (counts : List ℕ) where
  pub shares_whole : total ≡ total_of counts → shares_text counts ≡ shares_left total counts 0
  unfolding shares_text shares_of
  shares_whole e = ap (λ (t : ℕ). flat_map fraction_text (map (λ c. share c t) counts)) (sym e)

  pub shares_next : (k : ℕ) → k < length counts → shares_left total counts k ≡ fraction_text (share (get_or counts k 0) total) ++ shares_left total counts (k + 1)
  unfolding flat_map
  shares_next k h =
      ap (λ (cs : List ℕ). flat_map fraction_text (map (λ c. share c total) cs)) (drop-cons counts k 0 h)
      ∙ ap (λ (j : ℕ). fraction_text (share (get_or counts k 0) total) ++ shares_left total counts j) (sym (add-one k))

  pub shares_end : (k : ℕ) → length counts ≤ k → shares_left total counts k ≡ []
  unfolding flat_map
  shares_end k h = ap (λ (cs : List ℕ). flat_map fraction_text (map (λ c. share c total) cs)) (drop_of_length-le counts {i = k} h)

pub divisor_positive : {g count total : ℕ} → g ≡ gcd count total → 0 < count → count ≤ total → 0 < g
divisor_positive {count = count} {total = total} e h l = subst (λ (n : ℕ). 0 < n) (sym e) (g_positive count total h l)
