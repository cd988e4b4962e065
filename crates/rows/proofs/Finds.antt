-- Searches of ascending numbers, told by what they find; and the search that a word's lowest bit answers.
use Prim.Native.Nat.{ℕ, zero, suc, ◌+◌, ◌-◌, ◌^◌, ◌≤◌, ◌<◌}
use native.Mathlib.Omega.{arith}
use native.Mathlib.Nat.{le_antisymm, eq-or-lt_of_le, zero-add, suc-add}
use mathlib.Core.Path.{◌≡◌, refl, sym, ap, ◌∙◌}
use mathlib.Core.Logic.{⊎_elim}
use mathlib.Core.Bool.{Bool, true, false, not, cond}
use mathlib.Core.List.{List, [], ◌∷◌}
use mathlib.Core.Option.{Option, none, some}
use lib.Count.{count_trailing_zeros}
use lib.Bits.{bit_and}
use lib.Dec.{eqb, ltb}
use borrow.Author.Tests.{lt-ltb, ltb-true, eq-eqb, ne_eqb}
use Rattle.logic.specs.Search.{◌and◌, from, keep, or_else, first_of, find, select}
use Rattle.theory.proofs.Basics.Search.{true-false, and_right, not_of, find-some, find_none, find_lowest, first_of_empty, from-mem, from_intro}
use Rattle.theory.proofs.Basics.Compare.{le_cases}
use Rattle.rows.specs.Bits.{bit}
use Rattle.rows.proofs.Bits.{lowest_set, lowest_in, lowest_least, bit-none, bit-and, bit-rest}

module _ (p : ℕ → Bool) (m k : ℕ) where
  pub find_first : (a : ℕ) → k ≤ a → a < k + m → p a ≡ true → ((i : ℕ) → k ≤ i → i < a → p i ≡ false) → find p (from m k) ≡ some a
  find_first a h l here before = go (find p (from m k)) refl
    where
      same : (b : ℕ) → find p (from m k) ≡ some b → b ≡ a
      same b e =
          let f = find-some p (from m k) b e in
          ⊎_elim
          (λ g. ⊎_elim (λ g'. le_antisymm g g') (λ g'. absurd (true-false f.1 (before b (from-mem m k b f.0).0 g'))) (le_cases a b))
          (λ g. absurd (true-false here (find_lowest p m k b e a h g)))
          (le_cases b a)

      go : (o : Option ℕ) → find p (from m k) ≡ o → find p (from m k) ≡ some a
      go none e = absurd (true-false here (find_none p a e (from_intro m k a h l)))
      go (some b) e = e ∙ ap some (same b e)

  pub find_nothing : ((i : ℕ) → k ≤ i → i < k + m → p i ≡ false) → find p (from m k) ≡ none
  unfolding find keep
  find_nothing h = first_of_empty (λ a. keep (p a) a) (from m k) (λ x i. let r = from-mem m k x i in rw (h x r.0 r.1))

-- a search may look at more numbers, where those pass no test
pub find_in : (p q : ℕ → Bool) (m k m' k' : ℕ) → k' ≤ k → k + m ≤ k' + m' → ((i : ℕ) → k ≤ i → i < k + m → p i ≡ q i) →
    ((i : ℕ) → q i ≡ true → (k ≤ i) × (i < k + m)) → find p (from m k) ≡ find q (from m' k')
find_in p q m k m' k' below above same inside = go (find q (from m' k')) refl
  where
    go : (o : Option ℕ) → find q (from m' k') ≡ o → find p (from m k) ≡ find q (from m' k')
    go none e = find_nothing p m k (λ i h l. same i h l ∙ find_none q i e (from_intro m' k' i (omega arith) (omega arith))) ∙ sym e
    go (some a) e =
        let f = find-some q (from m' k') a e in
        let r = inside a f.1 in
        find_first p m k a r.0 r.1 (same a r.0 r.1 ∙ f.1) (λ i h l. same i h (omega arith) ∙ find_lowest q m' k' a e i (omega arith) l) ∙ sym e

-- the lowest bit of a word
pub find-bit : (w : ℕ) → 0 < w → w < 2 ^ 32 → find (bit w) (from 32 0) ≡ some (count_trailing_zeros 32 w)
find-bit w p h = find_first (bit w) 32 0 (count_trailing_zeros 32 w) (omega arith) (lowest_in 32 w p h) (lowest_set 32 w p h) (λ i l g. lowest_least 32 w i g)

pub find-no-bit : find (bit 0) (from 32 0) ≡ none
find-no-bit = find_nothing (bit 0) 32 0 (λ i h l. bit-none i)

-- a row of the numbers up to n, with another word's bits
pub find_masked : (p : ℕ → Bool) (n w m : ℕ) → n ≤ 16 → ((i : ℕ) → i ≤ 16 → bit w i ≡ p i) → ((i : ℕ) → bit m i ≡ ltb i (n + 1)) → find (bit (bit_and w m)) (from 32 0) ≡ find p (from (n + 1 - 0) 0)
unfolding ◌and◌
find_masked p n w m few e f =
    sym
    (find_in p (bit (bit_and w m)) (n + 1 - 0) 0 32 0 (omega arith) (omega arith)
    (λ i h l. sym (bit-and w m i ∙ rw (f i, lt-ltb i (n + 1) (omega arith)) (same (bit w i) ∙ e i (omega arith))))
    (λ i h. let l = ltb-true i (n + 1) (sym (f i) ∙ and_right (bit w i) (bit m i) (sym (bit-and w m i) ∙ h)) in (omega arith, omega arith)))
  where
    same : (t : Bool) → t and true ≡ t
    same true = refl
    same false = refl

-- the numbers of a row one after the other
select-same : (p q : ℕ → Bool) (j k : ℕ) → ((i : ℕ) → k ≤ i → p i ≡ q i) → select p (from j k) ≡ select q (from j k)
unfolding select from
select-same p q zero k e = refl
select-same p q (suc j) k e = rw (e k (omega arith), select-same p q j (suc k) (λ i h. e i (omega arith)))

select_empty : (p : ℕ → Bool) (j k : ℕ) → ((i : ℕ) → k ≤ i → p i ≡ false) → select p (from j k) ≡ []
unfolding select from
select_empty p zero k h = refl
select_empty p (suc j) k h = rw (h k (omega arith)) (select_empty p j (suc k) (λ i l. h i (omega arith)))

select_up_to : (p : ℕ → Bool) (j k l : ℕ) → ((i : ℕ) → k + j ≤ i → p i ≡ false) → select p (from (j + l) k) ≡ select p (from j k)
unfolding select from
select_up_to p zero k l h = ap (λ (j : ℕ). select p (from j k)) (zero-add l) ∙ select_empty p l k (λ i m. h i (omega arith))
select_up_to p (suc j) k l h = ap (λ (i : ℕ). select p (from i k)) (suc-add j l) ∙ ap (λ (t : List ℕ). cond (p k) (k ∷ t) t) (select_up_to p j (suc k) l (λ i m. h i (omega arith)))

module _ (p q : ℕ → Bool) (a : ℕ) (here : p a ≡ true) (gone : q a ≡ false) (same : (i : ℕ) → (i ≡ a → ⊥) → p i ≡ q i) where
  select_first : (j k : ℕ) → k ≤ a → a < k + j → ((i : ℕ) → k ≤ i → i < a → p i ≡ false) → select p (from j k) ≡ a ∷ select q (from j k)
  unfolding select from
  select_first zero k h l before = absurd (omega arith)
  select_first (suc j) k h l before = ⊎_elim at (λ g. past g (select_first j (suc k) g (omega arith) (λ i m. before i (omega arith)))) (eq-or-lt_of_le h)
    where
      at : k ≡ a → cond (p k) (k ∷ select p (from j (suc k))) (select p (from j (suc k))) ≡ a ∷ cond (q k) (k ∷ select q (from j (suc k))) (select q (from j (suc k)))
      at e = rw (e, here, gone) (ap (λ (l : List ℕ). a ∷ l) (select-same p q j (suc a) (λ i g. same i (λ z. omega arith))))

      past : k < a → select p (from j (suc k)) ≡ a ∷ select q (from j (suc k)) →
          cond (p k) (k ∷ select p (from j (suc k))) (select p (from j (suc k))) ≡ a ∷ cond (q k) (k ∷ select q (from j (suc k))) (select q (from j (suc k)))
      past g ih = let no = before k (omega arith) g in rw (no, sym (same k (λ z. omega arith)) ∙ no) ih

-- where the lowest bit of a word is found
module _ (w a : ℕ) (p : 0 < w) (h : w < 2 ^ 32) (e : find (bit w) (from 32 0) ≡ some a) where
  rest_bits : (i : ℕ) → bit (bit_and w (w - 1)) i ≡ bit w i and not (eqb i a)
  rest_bits i = bit-rest 32 w p h i ∙ ap (λ (t : ℕ). bit w i and not (eqb i t)) lowest
    where
      lowest : count_trailing_zeros 32 w ≡ a
      lowest = let z : ◌≡◌ {A = Option ℕ} (some (count_trailing_zeros 32 w)) (some a) = sym (find-bit w p h) ∙ e in cc

  pub rest_other : (i : ℕ) → (i ≡ a → ⊥) → bit (bit_and w (w - 1)) i ≡ bit w i
  unfolding ◌and◌
  rest_other i n = rest_bits i ∙ rw (ne_eqb i a n) (go (bit w i))
    where
      go : (t : Bool) → t and true ≡ t
      go true = refl
      go false = refl

  pub rest_gone : bit (bit_and w (w - 1)) a ≡ false
  unfolding ◌and◌
  rest_gone = rest_bits a ∙ rw (eq-eqb a a refl) (go (bit w a))
    where
      go : (t : Bool) → t and false ≡ false
      go true = refl
      go false = refl

  pub select_rest : select (bit w) (from 32 0) ≡ a ∷ select (bit (bit_and w (w - 1))) (from 32 0)
  select_rest =
      let f = find-some (bit w) (from 32 0) a e in
      select_first (bit w) (bit (bit_and w (w - 1))) a f.1 rest_gone (λ i n. sym (rest_other i n)) 32 0 (omega arith) (from-mem 32 0 a f.0).1 (λ i k l. find_lowest (bit w) 32 0 a e i k l)

-- a search of a row is a search of its numbers, where no other can succeed
module _ {B : Type 0} (f : ℕ → Option B) (p : ℕ → Bool) where
  first_selected : (j k : ℕ) → ((i : ℕ) → k ≤ i → i < k + j → p i ≡ false → f i ≡ none) → first_of f (from j k) ≡ first_of f (select p (from j k))
  unfolding first_of select from or_else
  first_selected zero k h = refl
  first_selected (suc j) k h = go (p k) refl (first_selected j (suc k) (λ i l m. h i (omega arith) (omega arith)))
    where
      go : (t : Bool) → p k ≡ t → first_of f (from j (suc k)) ≡ first_of f (select p (from j (suc k))) →
          or_else (f k) (first_of f (from j (suc k))) ≡ first_of f (cond t (k ∷ select p (from j (suc k))) (select p (from j (suc k))))
      go true e ih = ap (or_else (f k)) ih
      go false e ih = rw (h k (omega arith) (omega arith) e) ih

pub first_masked : {B : Type 0} (f : ℕ → Option B) (n w : ℕ) → n ≤ 16 → ((i : ℕ) → bit w i ≡ true → i ≤ n) →
    ((i : ℕ) → i ≤ n → bit w i ≡ false → f i ≡ none) → first_of f (from (n + 1 - 0) 0) ≡ first_of f (select (bit w) (from 32 0))
first_masked f n w few inside others =
    first_selected f (bit w) (n + 1 - 0) 0 (λ i h l e. others i (omega arith) e)
    ∙ ap (first_of f) (sym (select_up_to (bit w) (n + 1 - 0) 0 (31 - n) (λ i h. not_of (λ e. let l = inside i e in omega arith))) ∙ ap (λ (k : ℕ). select (bit w) (from k 0)) all)
  where
    all : n + 1 - 0 + (31 - n) ≡ 32
    all = omega arith
